-- What is handed up from nodes to their parents, from the last node on down.
use Rattle.std.proofs.Common.{◌≡◌, ℕ, zero, suc, ◌+◌, ◌<◌, ◌≤◌, Bool, false, not, ◌&&◌, ◌||◌, eqb, ltb, List, [], length, get_or, set, map, replicate, Option, Some, None, inl, inr, refl, sym, ap, ◌∙◌, arith}
use Rattle.std.specs.List.{range_with_len}
use Rattle.std.specs.Option.{option_map_or}
use Rattle.std.proofs.lemmas.Bool.{cases_eq, cases_order, eq-eqb, ne_eqb, lt-ltb, le-ltb}
use Rattle.std.proofs.lemmas.List.{get_or-replicate, get_or-set_same, get_or-set_other, length-replicate, length-set}
use Rattle.std.proofs.lemmas.List.FromFn.{length-map-range_with_len, get_or-map-range_with_len, fill_by_all}
use Rattle.dcr_graph.proofs.BoolLemmas.{and_false, and_true, or_assoc, or_false}
use Rattle.dcr_graph.proofs.TableLemmas.{eqb_comm}
use Rattle.dcr_graph.specs.Rows.{row, leads}
use Rattle.dcr_set.specs.EventSet.{Set, has, those, no_event, with_event, union}
use Rattle.dcr_set.proofs.SetLemmas.{length-those, has-those, same_set}
use Rattle.dcr_set.proofs.ToldLemmas.{filled, filled_none, filled_all, filled_more, filled_same}
use Rattle.dcr_nest.specs.Tree.{Parents, parent_of, AreEarlier, meets, atoms, atoms_below}
use Rattle.dcr_nest.proofs.AtomLemmas.{atoms-within}
use Rattle.dcr_nest.proofs.FlatLemmas.{room-atoms_below, has-atoms_below}
use Rattle.dcr_nest.proofs.RowLemmas.{leads-unite, room-unite}
use Rattle.dcr_nest.proofs.TreeLemmas.{same_at_parent}

-- following parents from x, in at most n steps, each of them from the node k or a later one, meets y
pub climbs : Parents → ℕ → ℕ → ℕ → ℕ → Bool
climbs parents k y zero x = eqb x y
climbs parents k y (suc n) x = eqb x y || (not (ltb x k) && option_map_or (climbs parents k y n) (parent_of parents x) false)

-- from a node before k there is no step
stays : (parents : Parents) (k y n x : ℕ) → x < k → climbs parents k y n x ≡ eqb x y
unfolding climbs
stays parents k y zero x before = refl
stays parents k y (suc n) x before =
    ap (λ t. eqb x y || (not t && option_map_or (climbs parents k y n) (parent_of parents x) false)) (lt-ltb x k before) ∙ or_false (eqb x y)

steps : (parents : Parents) (k y n x : ℕ) → k ≤ x → climbs parents k y (suc n) x ≡ (eqb x y || option_map_or (climbs parents k y n) (parent_of parents x) false)
unfolding climbs
steps parents k y n x from = ap (λ t. eqb x y || (not t && option_map_or (climbs parents k y n) (parent_of parents x) false)) (le-ltb x k from)

-- with steps from all nodes it is what following parents meets
climbs_all : (parents : Parents) (y n x : ℕ) → climbs parents 0 y n x ≡ meets parents (λ z. eqb z y) n x
unfolding climbs meets
climbs_all parents y zero x = refl
climbs_all parents y (suc n) x =
    steps parents 0 y n x (omega arith)
    ∙ ap (λ t. eqb x y || t) (same_at_parent (climbs parents 0 y n) (meets parents (λ z. eqb z y) n) (parent_of parents x) (λ p _. climbs_all parents y n p))

-- a node without a parent gives no step
climbs_top : (parents : Parents) (k y n x : ℕ) → parent_of parents k ≡ None → climbs parents (k + 1) y n x ≡ climbs parents k y n x
unfolding climbs
climbs_top parents k y zero x top = refl
climbs_top parents k y (suc n) x top = elim (cases_order x k) [
  | inl same ↦
      stays parents (k + 1) y (suc n) x (omega arith)
      ∙ sym (steps parents k y n x (omega arith)
      ∙ ap (λ parent. eqb x y || option_map_or (climbs parents k y n) parent false) (ap (parent_of parents) same ∙ top) ∙ or_false (eqb x y))
  | inr (inl before) ↦ stays parents (k + 1) y (suc n) x (omega arith) ∙ sym (stays parents k y (suc n) x before)
  | inr (inr past) ↦
      steps parents (k + 1) y n x (omega arith)
      ∙ ap (λ t. eqb x y || t) (same_at_parent (climbs parents (k + 1) y n) (climbs parents k y n) (parent_of parents x) (λ p _. climbs_top parents k y n p top))
      ∙ sym (steps parents k y n x (omega arith))
]

either_at_parent : (F f g : ℕ → Bool) (a : Bool) (parent : Option ℕ) → ((p : ℕ) → parent ≡ Some p → F p ≡ (f p || (a && g p)))
    → option_map_or F parent false ≡ (option_map_or f parent false || (a && option_map_or g parent false))
either_at_parent F f g a None h = sym (and_false a)
either_at_parent F f g a (Some p) h = h p refl

-- with the step from k to its parent what meets k meets the parent too
climbs_more : (parents : Parents) (k p y n x : ℕ) → AreEarlier parents → parent_of parents k ≡ Some p → x ≤ n
    → climbs parents k y n x ≡ (climbs parents (k + 1) y n x || (eqb y p && climbs parents (k + 1) k n x))
unfolding climbs
climbs_more parents k p y zero x earlier inside few =
    sym (ap (λ t. eqb x y || (eqb y p && t)) (ne_eqb x k (λ same. let l = earlier k p inside in absurd (omega arith)))
    ∙ ap (λ t. eqb x y || t) (and_false (eqb y p)) ∙ or_false (eqb x y))
climbs_more parents k p y (suc n) x earlier inside few = elim (cases_order x k) [
  | inl same ↦
      steps parents k y n x (omega arith)
      ∙ ap (λ parent. eqb x y || option_map_or (climbs parents k y n) parent false) (ap (parent_of parents) same ∙ inside)
      ∙ ap (λ t. eqb x y || t) (stays parents k y n p (earlier k p inside) ∙ eqb_comm p y)
      ∙ sym (ap (λ t. t || (eqb y p && climbs parents (k + 1) k (suc n) x)) (stays parents (k + 1) y (suc n) x (omega arith))
      ∙ ap (λ t. eqb x y || (eqb y p && t)) (stays parents (k + 1) k (suc n) x (omega arith) ∙ eq-eqb x k same)
      ∙ ap (λ t. eqb x y || t) (and_true (eqb y p)))
  | inr (inl before) ↦
      stays parents k y (suc n) x before
      ∙ sym (ap (λ t. t || (eqb y p && climbs parents (k + 1) k (suc n) x)) (stays parents (k + 1) y (suc n) x (omega arith))
      ∙ ap (λ t. eqb x y || (eqb y p && t)) (stays parents (k + 1) k (suc n) x (omega arith) ∙ ne_eqb x k (λ same. absurd (omega arith)))
      ∙ ap (λ t. eqb x y || t) (and_false (eqb y p)) ∙ or_false (eqb x y))
  | inr (inr past) ↦
      steps parents k y n x (omega arith)
      ∙ ap (λ t. eqb x y || t) (either_at_parent (climbs parents k y n) (climbs parents (k + 1) y n) (climbs parents (k + 1) k n) (eqb y p) (parent_of parents x)
      (λ q above. let l = earlier x q above in climbs_more parents k p y n q earlier inside (omega arith)))
      ∙ sym (ap (λ t. t || (eqb y p && climbs parents (k + 1) k (suc n) x)) (steps parents (k + 1) y n x (omega arith))
      ∙ ap (λ t. (eqb x y || option_map_or (climbs parents (k + 1) y n) (parent_of parents x) false) || (eqb y p && t))
      (steps parents (k + 1) k n x (omega arith) ∙ ap (λ t. t || option_map_or (climbs parents (k + 1) k n) (parent_of parents x) false) (ne_eqb x k (λ same. absurd (omega arith))))
      ∙ or_assoc (eqb x y) (option_map_or (climbs parents (k + 1) y n) (parent_of parents x) false) (eqb y p && option_map_or (climbs parents (k + 1) k n) (parent_of parents x) false))
]

-- the set of each node has the atoms that meet it by steps from the node k and later ones
pub record HandedUp (parents : Parents) (sets : List Set) (k : ℕ) : Type 0 where
  pub many : length sets ≡ length parents
  pub rooms : (y : ℕ) → y < length parents → length (row sets y) ≡ length (atoms parents)
  pub climbed : (y e : ℕ) → y < length parents → e < length (atoms parents) → leads sets y e ≡ climbs parents k y (length parents) (get_or (atoms parents) e 0)

-- with no step each atom is in its own node's set
pub handed_up_none : (parents : Parents) (sets : List Set)
    → sets ≡ map (λ y. those (length (atoms parents)) (λ e. eqb (get_or (atoms parents) e 0) y)) (range_with_len 0 (length parents)) → HandedUp parents sets (length parents)
handed_up_none parents sets own =
    let n = length (atoms parents) in
    let of = λ (y : ℕ). those n (λ e. eqb (get_or (atoms parents) e 0) y) in
    let here : (y : ℕ) → y < length parents → row sets y ≡ of y = λ y within.
    ap (λ rows. row rows y) own ∙ get_or-map-range_with_len of 0 (length parents) y y [] within (omega arith) in
    record {
      many = ap (λ rows. length rows) own ∙ length-map-range_with_len of 0 (length parents);
      rooms = λ y within. ap (λ s. length s) (here y within) ∙ length-those n (λ e. eqb (get_or (atoms parents) e 0) y);
      climbed = λ y e within inside.
          ap (λ s. has s e) (here y within) ∙ has-those n (λ e. eqb (get_or (atoms parents) e 0) y) e inside
          ∙ sym (stays parents (length parents) y (length parents) (get_or (atoms parents) e 0) (atoms-within parents e 0 inside));
    }

pub handed_up_top : (parents : Parents) (sets : List Set) (k : ℕ) → HandedUp parents sets (k + 1) → parent_of parents k ≡ None → HandedUp parents sets k
handed_up_top parents sets k h top = record {
  many = h.many;
  rooms = h.rooms;
  climbed = λ y e within inside. h.climbed y e within inside ∙ climbs_top parents k y (length parents) (get_or (atoms parents) e 0) top;
}

pub handed_up_more : (parents : Parents) (sets : List Set) (k p : ℕ) → AreEarlier parents → HandedUp parents sets (k + 1) → parent_of parents k ≡ Some p → k < length parents
    → HandedUp parents (set sets p (union (row sets p) (row sets k))) k
handed_up_more parents sets k p earlier h inside last =
    let before = earlier k p inside in
    let within : p < length sets = (let many = h.many in omega arith) in
    let room : length (row sets p) ≡ length (row sets k) = h.rooms p (omega arith) ∙ sym (h.rooms k last) in
    record {
      many = length-set sets p (union (row sets p) (row sets k)) ∙ h.many;
      rooms = λ y node. room-unite sets p (row sets k) within y ∙ h.rooms y node;
      climbed = λ y e node atom.
          let x = get_or (atoms parents) e 0 in
          leads-unite sets p (row sets k) within room y e
          ∙ ap (λ t. t || (eqb y p && leads sets k e)) (h.climbed y e node atom)
          ∙ ap (λ t. climbs parents (k + 1) y (length parents) x || (eqb y p && t)) (h.climbed k e last atom)
          ∙ sym (climbs_more parents k p y (length parents) x earlier inside (let first = atoms-within parents e 0 atom in omega arith));
    }

-- with steps from all nodes the sets have the atoms at or below the nodes
pub handed_up_all : (parents : Parents) (sets : List Set) → HandedUp parents sets 0 → sets ≡ map (atoms_below parents) (range_with_len 0 (length parents))
handed_up_all parents sets h =
    fill_by_all (atoms_below parents) sets (length parents) [] h.many (λ y within.
    same_set (row sets y) (atoms_below parents y) (h.rooms y within ∙ sym (room-atoms_below parents y)) (λ e inside.
    let room = h.rooms y within in let atom : e < length (atoms parents) = omega arith in
    h.climbed y e within atom ∙ climbs_all parents y (length parents) (get_or (atoms parents) e 0) ∙ sym (has-atoms_below parents y e atom)))

-- the sets of so many nodes, each with those of the first i atoms that are the node
abbrev pub own_of : List ℕ → ℕ → ℕ → List Set
own_of xs count i = map (λ y. filled (length xs) (λ e. eqb (get_or xs e 0) y) i) (range_with_len 0 count)

pub own_row : (xs : List ℕ) (count i y : ℕ) → y < count → row (own_of xs count i) y ≡ filled (length xs) (λ e. eqb (get_or xs e 0) y) i
own_row xs count i y within = get_or-map-range_with_len (λ y. filled (length xs) (λ e. eqb (get_or xs e 0) y) i) 0 count y y [] within (omega arith)

pub length-own_of : (xs : List ℕ) (count i : ℕ) → length (own_of xs count i) ≡ count
length-own_of xs count i = length-map-range_with_len (λ y. filled (length xs) (λ e. eqb (get_or xs e 0) y) i) 0 count

pub own_room : (xs : List ℕ) (count i y : ℕ) → y < count → length (row (own_of xs count i) y) ≡ length xs
own_room xs count i y within = ap (λ s. length s) (own_row xs count i y within) ∙ length-those (length xs) (λ e. eqb (get_or xs e 0) y && ltb e i)

-- at first the sets are empty
pub own_none : (xs : List ℕ) (count : ℕ) → replicate count (no_event (length xs)) ≡ own_of xs count 0
own_none xs count =
    fill_by_all (λ y. filled (length xs) (λ e. eqb (get_or xs e 0) y) 0) (replicate count (no_event (length xs))) count [] (length-replicate count (no_event (length xs)))
    (λ y within. get_or-replicate count y (no_event (length xs)) [] within ∙ filled_none (length xs) (λ e. eqb (get_or xs e 0) y))

-- and at last each has its own atom
pub own_all : (xs : List ℕ) (count i : ℕ) → length xs ≤ i → own_of xs count i ≡ map (λ y. those (length xs) (λ e. eqb (get_or xs e 0) y)) (range_with_len 0 count)
own_all xs count i all =
    fill_by_all (λ y. those (length xs) (λ e. eqb (get_or xs e 0) y)) (own_of xs count i) count [] (length-own_of xs count i)
    (λ y within. own_row xs count i y within ∙ filled_all (length xs) i (λ e. eqb (get_or xs e 0) y) all)

-- one atom more is in its own node's set
pub own_more : (xs : List ℕ) (count i a : ℕ) → a ≡ get_or xs i 0 → a < count
    → set (own_of xs count i) a (with_event (row (own_of xs count i) a) i) ≡ own_of xs count (i + 1)
own_more xs count i a here within =
    let before = own_of xs count i in
    let many = length-own_of xs count i in
    let s = with_event (row before a) i in
    fill_by_all (λ y. filled (length xs) (λ e. eqb (get_or xs e 0) y) (i + 1)) (set before a s) count [] (length-set before a s ∙ many) (λ y node. elim (cases_eq y a) [
      | inl same ↦
          ap (λ k. row (set before a s) k) same ∙ get_or-set_same before a s [] (omega arith)
          ∙ ap (λ r. with_event r i) (own_row xs count i a within)
          ∙ filled_more (length xs) i (λ e. eqb (get_or xs e 0) a) (eq-eqb (get_or xs i 0) a (sym here))
          ∙ ap (λ k. filled (length xs) (λ e. eqb (get_or xs e 0) k) (i + 1)) (sym same)
      | inr other ↦
          get_or-set_other before a y s [] other ∙ own_row xs count i y node
          ∙ filled_same (length xs) i (λ e. eqb (get_or xs e 0) y) (ne_eqb (get_or xs i 0) y (λ same. other (sym same ∙ sym here)))
    ])
