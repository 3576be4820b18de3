-- The atoms that ask for a role, as sets: joined one after another, and what they come to.
use Rattle.std.proofs.Common.{◌≡◌, ℕ, ◌+◌, ◌<◌, Bool, false, ◌&&◌, ◌||◌, eqb, ltb, List, [], ◌∷◌, ◌++◌, length, get_or, set, take, map, replicate, refl, sym, ap, ◌∙◌, arith}
use Rattle.std.specs.List.{All, list_any, range_with_len}
use Rattle.std.proofs.lemmas.List.{get_or-replicate, length-replicate, length-set}
use Rattle.std.proofs.lemmas.List.Folds.{list_any-append, list_any_more}
use Rattle.std.proofs.lemmas.List.FromFn.{get_or-range_with_len, length-range_with_len}
use Rattle.dcr_set.specs.EventSet.{Set, has, those, no_event, union}
use Rattle.dcr_set.proofs.SetLemmas.{has_those_both, length-those, those-ext}
use Rattle.dcr_set.proofs.ToldLemmas.{told_by_members, union-those}
use Rattle.dcr_graph.specs.Rows.{row, leads}
use Rattle.dcr_graph.proofs.BoolLemmas.{and_comm, and_false, cut_or, or_assoc, or_false}
use Rattle.dcr_graph.proofs.TableLemmas.{eqb_comm}
use Rattle.dcr_nest.specs.Tree.{Parents, is_at_or_below, atoms, atoms_below}
use Rattle.dcr_nest.proofs.FlatLemmas.{has-atoms_below, row_below}
use Rattle.dcr_nest.proofs.RowLemmas.{leads-unite, room-unite}
use Rattle.dcr_policy.specs.Numbered.{is_in, shares}
use Rattle.dcr_policy.specs.Sets.{AreAsking, AreJoined, asking_for, is_asked}
use Rattle.dcr_policy.specs.Upward.{upward}
use Rattle.dcr_policy.proofs.ListLemmas.{any_same, any_swapped, map_same}
use Rattle.dcr_policy.proofs.UpwardLemmas.{upward-any}

-- ---- a set is added to those of some roles

pub joined_none : (old : List Set) (more : Set) → AreJoined old [] more old
joined_none old more = record { many = refl; rooms = λ role. refl; joined = λ role a. sym (or_false (leads old role a)) }

pub joined_more : (old now : List Set) (roles : List ℕ) (more : Set) (i role : ℕ) → AreJoined old (take i roles) more now → i < length roles → role ≡ get_or roles i role
    → role < length now → length (row now role) ≡ length more → AreJoined old (take (i + 1) roles) more (set now role (union (row now role) more))
joined_more old now roles more i role h within read here room = record {
  many = length-set now role (union (row now role) more) ∙ h.many;
  rooms = λ r. room-unite now role more here r ∙ h.rooms r;
  joined = λ r a.
      leads-unite now role more here room r a
      ∙ ap (λ t. t || (eqb r role && has more a)) (h.joined r a)
      ∙ or_assoc (leads old r a) (is_in (take i roles) r && has more a) (eqb r role && has more a)
      ∙ ap (λ t. leads old r a || t) (cut_or (has more a) (is_in (take i roles) r) (eqb r role))
      ∙ ap (λ t. leads old r a || (t && has more a))
      (ap (λ m. is_in (take i roles) r || eqb r m) read ∙ sym (list_any_more (λ m. eqb r m) roles i role within));
}

pub asking_none : (own : List (List ℕ)) (below : List Set) (count room : ℕ) → AreAsking own below [] count room (replicate count (no_event room))
asking_none own below count room = record {
  many = length-replicate count (no_event room);
  rooms = λ role within. ap (λ s. length s) (get_or-replicate count role (no_event room) [] within) ∙ length-those room (λ _. false);
  asked = λ role a within.
      ap (λ s. has s a) (get_or-replicate count role (no_event room) [] within)
      ∙ has_those_both room (λ _. false) a ∙ and_false (ltb a room);
}

-- one node more
pub asking_more : (own : List (List ℕ)) (below now new : List Set) (nodes : List ℕ) (x count room : ℕ) → AreAsking own below nodes count room now → AreJoined now (get_or own x []) (row below x) new
    → AreAsking own below (nodes ++ x ∷ []) count room new
asking_more own below now new nodes x count room h j = record {
  many = j.many ∙ h.many;
  rooms = λ role within. j.rooms role ∙ h.rooms role within;
  asked = λ role a within.
      let here = is_in (get_or own x []) role && leads below x a in
      j.joined role a
      ∙ ap (λ t. t || here) (h.asked role a within)
      ∙ sym (list_any-append (λ y. is_in (get_or own y []) role && leads below y a) nodes (x ∷ []) ∙ ap (λ t. is_asked own below nodes role a || t) (or_false here));
}

-- ---- the sets of some roles are joined

union_told : (n : ℕ) (p : ℕ → Bool) (t : Set) → length t ≡ n → union (those n p) t ≡ those n (λ k. p k || has t k)
union_told n p t room = ap (λ s. union (those n p) s) (told_by_members n t room) ∙ union-those n p (has t)

pub gained_none : (n : ℕ) (sets : List Set) (roles : List ℕ) → no_event n ≡ those n (λ a. list_any (λ role. leads sets role a) (take 0 roles))
gained_none n sets roles = those-ext n (λ _. false) (λ a. list_any (λ role. leads sets role a) (take 0 roles)) (λ a within. refl)

pub gained_more : (n : ℕ) (sets : List Set) (roles : List ℕ) (i role : ℕ) (s : Set) → s ≡ those n (λ a. list_any (λ r. leads sets r a) (take i roles)) → i < length roles → role ≡ get_or roles i role
    → length (row sets role) ≡ n → union s (row sets role) ≡ those n (λ a. list_any (λ r. leads sets r a) (take (i + 1) roles))
gained_more n sets roles i role s told within read room =
    ap (λ t. union t (row sets role)) told
    ∙ union_told n (λ a. list_any (λ r. leads sets r a) (take i roles)) (row sets role) room
    ∙ those-ext n (λ a. list_any (λ r. leads sets r a) (take i roles) || leads sets role a) (λ a. list_any (λ r. leads sets r a) (take (i + 1) roles)) (λ a _.
    ap (λ m. list_any (λ r. leads sets r a) (take i roles) || leads sets m a) read ∙ sym (list_any_more (λ r. leads sets r a) roles i role within))

-- ---- what they come to

-- an atom is in the set of a role where the role stands upwards of its node
asked_upwards : (parents : Parents) (own : List (List ℕ)) (below asking : List Set) (count room role a : ℕ) → length own ≡ length parents → below ≡ map (atoms_below parents) (range_with_len 0 (length parents))
    → AreAsking own below (range_with_len 0 (length own)) count room asking → role < count → a < length (atoms parents)
    → leads asking role a ≡ is_in (upward parents own (get_or (atoms parents) a 0)) role
asked_upwards parents own below asking count room role a many all h within inside =
    let x = get_or (atoms parents) a 0 in
    let nodes = range_with_len 0 (length parents) in
    h.asked role a within
    ∙ ap (λ n. is_asked own below (range_with_len 0 n) role a) many
    ∙ any_same (λ y. is_in (get_or own y []) role && leads below y a) (λ y. is_at_or_below parents x y && is_in (get_or own y []) role) nodes (λ k d here.
    let y = get_or nodes k d in
    let node : y < length parents = omega (arith, length-range_with_len 0 (length parents), get_or-range_with_len 0 (length parents) k d) in
    ap (λ t. is_in (get_or own y []) role && t) (ap (λ s. has s a) (row_below parents below y all node) ∙ has-atoms_below parents y a inside)
    ∙ and_comm (is_in (get_or own y []) role) (is_at_or_below parents x y))
    ∙ sym (upward-any (eqb role) parents own x many)

-- so the sets of a user's roles together have the atoms that ask for one of them
granted_is : (parents : Parents) (own : List (List ℕ)) (below asking : List Set) (count : ℕ) (roles : List ℕ) → length own ≡ length parents → below ≡ map (atoms_below parents) (range_with_len 0 (length parents))
    → AreAsking own below (range_with_len 0 (length own)) count (length (atoms parents)) asking → All (λ role. role < count) roles
    → those (length (atoms parents)) (λ a. list_any (λ role. leads asking role a) roles) ≡ asking_for parents own (atoms parents) roles
granted_is parents own below asking count roles many all h known =
    let n = length (atoms parents) in
    let up : ℕ → List ℕ = λ a. upward parents own (get_or (atoms parents) a 0) in
    those-ext n (λ a. list_any (λ role. leads asking role a) roles) (λ a. shares (up a) roles) (λ a inside.
    any_same (λ role. leads asking role a) (is_in (up a)) roles (λ k d within. asked_upwards parents own below asking count n (get_or roles k d) a many all h (known k d within) inside)
    ∙ any_swapped (λ role other. eqb role other) roles (up a)
    ∙ any_same (λ other. list_any (λ role. eqb role other) roles) (is_in roles) (up a) (λ k d _.
    let other = get_or (up a) k d in
    any_same (λ role. eqb role other) (λ role. eqb other role) roles (λ j e _. eqb_comm (get_or roles j e) other)))

pub all_granted : (parents : Parents) (own users : List (List ℕ)) (below asking : List Set) (count : ℕ) → length own ≡ length parents → below ≡ map (atoms_below parents) (range_with_len 0 (length parents))
    → AreAsking own below (range_with_len 0 (length own)) count (length (atoms parents)) asking → All (λ roles. All (λ role. role < count) roles) users
    → map (λ roles. those (length (atoms parents)) (λ a. list_any (λ role. leads asking role a) roles)) users ≡ map (asking_for parents own (atoms parents)) users
all_granted parents own users below asking count many all h known =
    map_same (λ roles. those (length (atoms parents)) (λ a. list_any (λ role. leads asking role a) roles)) (asking_for parents own (atoms parents)) users
    (λ k d within. granted_is parents own below asking count (get_or users k d) many all h (known k d within))
