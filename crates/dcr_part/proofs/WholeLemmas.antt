-- What a case has at one of its sites, and what is read of its part there.
use Rattle.std.proofs.Common.{◌≡◌, ℕ, ◌<◌, ◌≤◌, Bool, true, false, ◌&&◌, cond, List, [], length, get_or, map, Option, Some, None, is_some, option_map, refl, sym, ap, ◌∙◌, subst, arith}
use Rattle.std.specs.Option.{option_and_then, unwrap_or}
use Rattle.std.proofs.lemmas.Bool.{false≢true, or_left}
use Rattle.std.proofs.lemmas.List.{ext_get_or, get_or-map}
use Rattle.std.proofs.lemmas.List.FromFn.{get_or-map-range_with_len, length-map-range_with_len}
use Rattle.hex.specs.Hex.{IsBytes}
use Rattle.dcr_set.specs.EventSet.{Set, has, those}
use Rattle.dcr_set.specs.Least.{least, some_below}
use Rattle.dcr_set.proofs.LeastLemmas.{least-none, least-none_from, least-some}
use Rattle.dcr_set.proofs.SetLemmas.{has-those, length-those, those-ext}
use Rattle.dcr_set.proofs.ToldLemmas.{intersection_set-those}
use Rattle.dcr_graph.specs.Names.{is_name}
use Rattle.dcr_graph.specs.Pairs.{clashes, first_clash}
use Rattle.dcr_graph.specs.Projection.{in_alphabet, local_rules, project, as_marking, tracks_included, tracks_executed, tracks_pending, HasRoom}
use Rattle.dcr_graph.specs.Rules.{Rules}
use Rattle.dcr_graph.specs.declared.kind.Kind.{Kind}
use Rattle.dcr_graph.specs.declared.kind.Kind.TheVariants.{Include, Exclude}
use Rattle.dcr_graph.specs.declared.marking.Marking.{Marking}
use Rattle.dcr_graph.specs.declared.marking.SiteMark.{SiteMark}
use Rattle.dcr_graph.proofs.GraphLemmas.{first_clash-none}
use Rattle.dcr_graph.proofs.LocalLaws.{same_marks}
use Rattle.dcr_proj.specs.Local.{Local, projection_of, cut_to}
use Rattle.dcr_site.specs.Seen.{Seen, StandsAt}
use Rattle.dcr_part.specs.Told.{told, told_names, name_told, AreDistinct}
use Rattle.dcr_part.specs.PartText.{told_text}
use Rattle.dcr_part.specs.Whole.{Whole, whole, AreToldNames, IsWhole, alphabet_of, part_of, part_text}
use Rattle.dcr_part.specs.Read.{AreFields, IsTold, table_rules}
use Rattle.dcr_part.specs.Laws.{AreAlike}
use Rattle.dcr_part.specs.declared.fields.Fields.{Fields}
use Rattle.dcr_part.specs.declared.head.PartHead.{PartHead}
use Rattle.dcr_part.proofs.RangeLemmas.{range_ext, twice, where_true}
use Rattle.dcr_part.proofs.RuleLemmas.{AreLocal, projection_is, local_is_local, same_atoms, same_local}
use Rattle.dcr_part.proofs.TextLemmas.{below_room, text_same, IsSame}

-- ---- names

-- what is told of an event
pub names_at : (set : Set) (names : List (List ℕ)) (e : ℕ) → e < length set → get_or (told_names set names) e None ≡ cond (has set e) (Some (get_or names e [])) None
names_at set names e within = get_or-map-range_with_len _ 0 (length set) e e None within (omega arith)

-- names that are told just of a set are those that are told of it
pub told_is : (set : Set) (names : List (Option (List ℕ))) → length names ≡ length set → ((e : ℕ) → e < length set → is_some (get_or names e None) ≡ has set e)
    → names ≡ told_names set (map (λ name. unwrap_or name []) names)
told_is set names many just =
    ext_get_or None names _ (many ∙ sym (length-map-range_with_len _ 0 (length set))) (λ e l.
    let within : e < length set = omega arith in
    here (get_or names e None) (has set e) (just e within)
    ∙ ap (λ name. cond (has set e) (Some name) None) (sym (get_or-map (λ name. unwrap_or name []) names e None [] l))
    ∙ sym (names_at set (map (λ name. unwrap_or name []) names) e within))
  where
    here : (o : Option (List ℕ)) (b : Bool) → is_some o ≡ b → o ≡ cond b (Some (unwrap_or o [])) None
    here (Some name) true is = refl
    here (Some name) false is = absurd (false≢true (sym is))
    here None true is = absurd (false≢true is)
    here None false is = refl

-- just those in the set are told
pub told_just : (set : Set) (names : List (List ℕ)) (e : ℕ) → e < length set → is_some (get_or (told_names set names) e None) ≡ has set e
told_just set names e within = ap (λ o. is_some o) (names_at set names e within) ∙ here (has set e)
  where
    here : (b : Bool) → is_some (cond b (Some (get_or names e [])) None) ≡ b
    here true = refl
    here false = refl

-- each in the set is told
pub told_some : (set : Set) (names : List (List ℕ)) (e : ℕ) → has set e ≡ true → is_some (get_or (told_names set names) e None) ≡ true
told_some set names e heard = told_just set names e (below_room set e heard) ∙ heard

-- ---- marks

-- the marks that a projection cuts out of a marking
pub cut_is : (G : Rules) (S : Set) (P : Local) (M : Marking) → P ≡ projection_of G S → HasRoom G.atoms M → cut_to P M ≡ project G S M
cut_is G S P M same room =
    ap (λ Q. cut_to Q M) same
    ∙ same_marks _ _ _ _ _ _
    (intersection_set-those M.executed G.atoms (tracks_executed G S) room.executed)
    (intersection_set-those M.pending G.atoms (tracks_pending G S) room.pending)
    (intersection_set-those M.included G.atoms (tracks_included G S) room.included)

-- marks that are tracked, cut again
pub marked : (G : Rules) (S : Set) (M : Marking) → project G S (as_marking (project G S M)) ≡ project G S M
marked G S M = same_marks _ _ _ _ _ _
    (again G.atoms (has M.executed) (tracks_executed G S)) (again G.atoms (has M.pending) (tracks_pending G S)) (again G.atoms (has M.included) (tracks_included G S))
  where
    again : (n : ℕ) (p t : ℕ → Bool) → those n (λ k. has (those n (λ j. p j && t j)) k && t k) ≡ those n (λ k. p k && t k)
    again n p t = those-ext n _ _ (λ k below. ap (λ b. b && t k) (has-those n (λ j. p j && t j) k below) ∙ twice (p k) (t k))

-- ---- clashes

none_from : {A : Type 0} (o : Option A) → is_some o ≡ false → o ≡ None
none_from None is = refl
none_from (Some x) is = absurd (false≢true (sym is))

is_some-map : {A B : Type 0} (f : A → B) (o : Option A) → is_some (option_map f o) ≡ is_some o
is_some-map f None = refl
is_some-map f (Some x) = refl

unclashed_at : (G : Rules) → first_clash G ≡ None → (a b : ℕ) → a < G.atoms → b < G.atoms → clashes G a b ≡ false
unclashed_at G none a b atom below = at (least G.atoms (λ k. some_below G.atoms (clashes G k))) refl
  where
    at : (o : Option ℕ) → least G.atoms (λ k. some_below G.atoms (clashes G k)) ≡ o → clashes G a b ≡ false
    at None is = least-none G.atoms (clashes G a) (none_from _ (least-none G.atoms (λ k. some_below G.atoms (clashes G k)) is a atom)) b below
    at (Some k) is = absurd (false≢true (
        ap is_some (sym none)
        ∙ ap (λ o. is_some {T = ℕ × ℕ} (option_and_then (λ x. option_map (λ y. (x, y)) (least G.atoms (clashes G x))) o)) is
        ∙ is_some-map {A = ℕ} {B = ℕ × ℕ} (λ y. (k, y)) (least G.atoms (clashes G k))
        ∙ (least-some G.atoms (λ j. some_below G.atoms (clashes G j)) k is).passes))

cut_clash : (i x t : Bool) → (i && x) ≡ false → ((i && t) && (x && t)) ≡ false
cut_clash true true t h = absurd (false≢true (sym h))
cut_clash true false true h = refl
cut_clash true false false h = refl
cut_clash false x t h = refl

-- rules that are the local ones of others clash nowhere where those don't
pub unclashed : (G : Rules) (S : Set) (H : Rules) → AreLocal G S H → first_clash G ≡ None → first_clash H ≡ None
unclashed G S H local none = first_clash-none H (λ a atom. least-none_from H.atoms (clashes H a) (λ b below.
    let n = local.atoms in
    let here : a < G.atoms = omega arith in let there : b < G.atoms = omega arith in
    ap (λ t. t && H.related Exclude a b) (local.related Include a b here there)
    ∙ ap (λ t. (G.related Include a b && tracks_included G S b) && t) (local.related Exclude a b here there)
    ∙ cut_clash (G.related Include a b) (G.related Exclude a b) (tracks_included G S b) (unclashed_at G none a b here there)))

-- what is written where a projection is the site's
pub written_is : (W : Whole) (head : PartHead) (R : Rules) (P : Local) (names : List (Option (List ℕ))) (mark : SiteMark) → head ≡ W.head → R.atoms ≡ W.rules.atoms
    → ((kind : Kind) (a b : ℕ) → a < W.rules.atoms → b < W.rules.atoms → (local_rules R W.own).related kind a b ≡ (local_rules W.rules W.own).related kind a b)
    → P ≡ projection_of W.rules W.own → names ≡ (part_of W).names → mark ≡ project W.rules W.own W.opening
    → IsSame (told head (local_rules R P.own) P.own P.alphabet names mark) (part_of W)
written_is W head R P names mark heads atoms related projection named marks = record {
  head = heads;
  atoms = atoms;
  related = λ kind a b atom below. ap (λ Q. (local_rules R Q.own).related kind a b) projection ∙ related kind a b (omega arith) (omega arith);
  own = ap (λ Q. Q.own) projection;
  alphabet = ap (λ Q. Q.alphabet) projection;
  names = named;
  mark = marks;
}

-- ---- a case at a site

module _ (W : Whole) (it : IsWhole W) where
  room : length (alphabet_of W) ≡ W.rules.atoms
  room = length-those W.rules.atoms (in_alphabet W.rules W.own)

  name_there : (e : ℕ) → has (alphabet_of W) e ≡ true → get_or (part_of W).names e None ≡ Some (get_or W.names e [])
  name_there e heard =
      names_at (alphabet_of W) W.names e (below_room (alphabet_of W) e heard) ∙ ap (λ b. cond b (Some (get_or W.names e [])) None) heard

  name_is : (e : ℕ) → has (alphabet_of W) e ≡ true → name_told (part_of W).names e ≡ get_or W.names e []
  name_is e heard = ap (λ o. unwrap_or o []) (name_there e heard)

  pub is_told : IsTold (part_of W)
  is_told = record {
    atoms = it.atoms;
    own = it.own;
    alphabet = room;
    marks = record { executed = length-those _ _; pending = length-those _ _; included = length-those _ _ };
    digest = it.digest;
    bytes = it.bytes;
    site = it.site;
    site_name = it.site_name;
    owned = λ e owned.
        let within = below_room W.own e owned in let own = it.own in
        has-those W.rules.atoms (in_alphabet W.rules W.own) e (omega arith) ∙ or_left (tracks_included W.rules W.own e) _ (or_left (has W.own e) _ owned);
    as_many = length-map-range_with_len _ 0 (length (alphabet_of W)) ∙ room;
    named = λ e heard. ap is_name (name_is e heard) ∙ it.named.are_names e (get_or W.names e []) (name_there e heard);
    just = λ e atom.
        let many = room in
        names_at (alphabet_of W) W.names e (omega arith) ∙ where_true (has (alphabet_of W) e) _ _ (λ heard. sym (name_is e heard));
  }

  -- the part's fields
  module _ (f : Fields) (are : AreFields (part_of W) f) where
    pub as_many : length f.own ≡ W.rules.atoms
    as_many = ap (λ s. length s) are.own ∙ it.own

    pub fields_local : AreLocal W.rules W.own (table_rules (length f.own) f.tables.items)
    fields_local = record { atoms = as_many; related = λ kind a b atom below. are.tables kind a b atom below }

    pub fields_unclashed : first_clash (table_rules (length f.own) f.tables.items) ≡ None
    fields_unclashed = unclashed W.rules W.own _ fields_local it.unclashed

    pub fields_projection : projection_of (table_rules (length f.own) f.tables.items) f.own ≡ projection_of W.rules W.own
    fields_projection = ap (projection_of (table_rules (length f.own) f.tables.items)) are.own ∙ projection_is W.rules W.own _ fields_local

    pub fields_marks : project W.rules W.own f.opening ≡ project W.rules W.own W.opening
    fields_marks = ap (project W.rules W.own) are.opening ∙ marked W.rules W.own W.opening

    pub fields_room : HasRoom W.rules.atoms f.opening
    fields_room = subst (HasRoom W.rules.atoms) (sym are.opening) (record { executed = length-those _ _; pending = length-those _ _; included = length-those _ _ })

    -- just the names of the alphabet are told
    pub fields_just : (set : Set) → set ≡ alphabet_of W → (e : ℕ) → e < length set → is_some (get_or f.names.items e None) ≡ has set e
    fields_just set is e within =
        ap (λ names. is_some (get_or names e None)) are.names
        ∙ told_just (alphabet_of W) W.names e (let many = ap (λ t. length t) is in omega arith)
        ∙ ap (λ t. has t e) (sym is)

    -- no two of them are one
    pub fields_distinct : AreDistinct f.names.items
    fields_distinct = subst AreDistinct (sym are.names) it.named.distinct

    -- a projection of the fields' tables is the site's
    pub fields_site : (R : Rules) (P : Local) → R ≡ table_rules (length f.own) f.tables.items → P ≡ projection_of R f.own → P ≡ projection_of W.rules W.own
    fields_site R P rules projection = projection ∙ ap (λ H. projection_of H f.own) rules ∙ fields_projection

    -- what is written of the fields is the site's part
    pub fields_text : (R : Rules) (P : Local) (mark : SiteMark) (text : List ℕ) → R ≡ table_rules (length f.own) f.tables.items → P ≡ projection_of R f.own → mark ≡ cut_to P f.opening
        → text ≡ told_text (told f.head (local_rules R P.own) P.own P.alphabet f.names.items mark) → text ≡ part_text W
    fields_text R P mark text rules projection cut is =
        let site = fields_site R P rules projection in
        is ∙ text_same (told f.head (local_rules R P.own) P.own P.alphabet f.names.items mark) (part_of W)
        (written_is W f.head R P f.names.items mark are.head (ap (λ H. H.atoms) rules ∙ as_many)
        (λ kind a b atom below.
        ap (λ H. (local_rules H W.own).related kind a b) rules ∙ local_is_local W.rules W.own (table_rules (length f.own) f.tables.items) fields_local kind a b atom below)
        site are.names (cut ∙ cut_is W.rules W.own P f.opening site fields_room ∙ fields_marks))

    -- a site that stands at the fields' opening stands at the case's
    pub fields_stand : (site : Seen) → StandsAt W.rules W.own f.opening site → StandsAt W.rules W.own W.opening site
    fields_stand site stands = record { projection = stands.projection; mark = stands.mark ∙ fields_marks }

-- ---- the case that fields tell, whose other names are empty

abbrev pub case_of : PartHead → List (Option (List ℕ)) → Rules → Set → Marking → Whole
case_of head names R own opening = whole head (map (λ name. unwrap_or name []) names) R own opening

module _ (head : PartHead) (names : List (Option (List ℕ))) (R : Rules) (own : Set) (opening : Marking) where
  pub case_names : length names ≡ R.atoms → (set : Set) → set ≡ those R.atoms (in_alphabet R own) → ((e : ℕ) → e < length set → is_some (get_or names e None) ≡ has set e)
      → names ≡ (part_of (case_of head names R own opening)).names
  case_names many set is just =
      told_is (those R.atoms (in_alphabet R own)) names (many ∙ sym (length-those R.atoms (in_alphabet R own)))
      (subst (λ t. (e : ℕ) → e < length t → is_some (get_or names e None) ≡ has t e) is just)

  pub is_case : R.atoms ≤ 1024 → length own ≡ R.atoms → HasRoom R.atoms opening → length head.digest ≡ 32 → IsBytes head.digest → head.site < 64 → is_name head.name ≡ true
      → names ≡ (part_of (case_of head names R own opening)).names → AreToldNames names → first_clash R ≡ None → IsWhole (case_of head names R own opening)
  is_case few many marks digest bytes site name is named unclashed = record {
    atoms = few;
    own = many;
    opening = marks;
    digest = digest;
    bytes = bytes;
    site = site;
    site_name = name;
    named = subst AreToldNames is named;
    unclashed = unclashed;
  }

  pub case_text : (P : Local) (mark : SiteMark) (text : List ℕ) → P ≡ projection_of R own → HasRoom R.atoms opening → mark ≡ cut_to P opening → names ≡ (part_of (case_of head names R own opening)).names
      → text ≡ told_text (told head (local_rules R P.own) P.own P.alphabet names mark) → text ≡ part_text (case_of head names R own opening)
  case_text P mark text projection marks cut named is =
      is ∙ text_same (told head (local_rules R P.own) P.own P.alphabet names mark) (part_of (case_of head names R own opening))
      (written_is (case_of head names R own opening) head R P names mark refl refl (λ _ _ _ _ _. refl) projection named (cut ∙ cut_is R own P opening projection marks))

-- cases that are alike at a site
pub alike_same : (V W : Whole) → AreAlike V W → IsSame (part_of V) (part_of W)
alike_same V W alike =
    let alphabet = ap (λ P. P.alphabet) alike.projection in
    record {
      head = alike.head;
      atoms = same_atoms V.rules W.rules V.own W.own alike.projection;
      related = same_local V.rules W.rules V.own W.own alike.projection;
      own = ap (λ P. P.own) alike.projection;
      alphabet = alphabet;
      names =
          range_ext _ _ 0 (length (alphabet_of V)) (λ e _ _. where_true (has (alphabet_of V) e) _ _ (λ heard. alike.names e heard))
          ∙ ap (λ A. told_names A W.names) alphabet;
      mark = alike.marks;
    }
