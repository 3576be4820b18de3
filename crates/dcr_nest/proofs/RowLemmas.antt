-- Rows of sets, one for each node: what is added to one of them, and what is handed down from parents.
use Rattle.std.proofs.Common.{◌≡◌, ℕ, ◌+◌, ◌<◌, ◌≤◌, false, ◌&&◌, ◌||◌, eqb, List, [], length, get_or, set, take, Some, None, inl, inr, refl, sym, ap, ◌∙◌, arith}
use Rattle.std.specs.List.{list_any}
use Rattle.std.specs.Option.{option_map_or}
use Rattle.std.proofs.lemmas.Bool.{cases_eq, eq-eqb, ne_eqb}
use Rattle.std.proofs.lemmas.List.{get_or-set_same, get_or-set_other, length-set}
use Rattle.std.proofs.lemmas.List.Folds.{list_any_more}
use Rattle.dcr_graph.proofs.BoolLemmas.{or_false}
use Rattle.dcr_graph.proofs.GraphLemmas.{or_chain}
use Rattle.dcr_graph.specs.Pairs.{Pair}
use Rattle.dcr_graph.specs.Rules.{kind_number}
use Rattle.dcr_graph.specs.Rows.{row, leads}
use Rattle.dcr_set.specs.EventSet.{Set, has, union}
use Rattle.dcr_set.proofs.SetLemmas.{has_past, length-those}
use Rattle.dcr_set.proofs.StandsLemmas.{has-those_all}
use Rattle.dcr_nest.specs.FlatRelation.{gathers}
use Rattle.dcr_nest.specs.Tree.{Parents, parent_of, AreEarlier, meets}
use Rattle.dcr_nest.proofs.TreeLemmas.{meets_once, meets_at_top}

pub has-union : (s t : Set) → length s ≡ length t → (b : ℕ) → has (union s t) b ≡ (has s b || has t b)
has-union s t same b = has-those_all (length s) (λ k. has s k || has t k) (λ k past. ap (λ x. x || has t k) (has_past s k past) ∙ has_past t k (omega arith)) b

-- the row of one node is joined with a set
pub leads-unite : (rows : List Set) (at : ℕ) (more : Set) → at < length rows → length (row rows at) ≡ length more → (x b : ℕ)
    → leads (set rows at (union (row rows at) more)) x b ≡ (leads rows x b || (eqb x at && has more b))
leads-unite rows at more within room x b = elim (cases_eq x at) [
  | inl same ↦
      ap (λ k. leads (set rows at (union (row rows at) more)) k b) same
      ∙ ap (λ s. has s b) (get_or-set_same rows at (union (row rows at) more) [] within)
      ∙ has-union (row rows at) more room b
      ∙ sym (ap (λ k. leads rows k b || (eqb k at && has more b)) same ∙ ap (λ t. leads rows at b || (t && has more b)) (eq-eqb at at refl))
  | inr other ↦
      ap (λ s. has s b) (get_or-set_other rows at x (union (row rows at) more) [] other)
      ∙ sym (ap (λ t. leads rows x b || (t && has more b)) (ne_eqb x at other) ∙ or_false (leads rows x b))
]

pub room-unite : (rows : List Set) (at : ℕ) (more : Set) → at < length rows → (x : ℕ)
    → length (row (set rows at (union (row rows at) more)) x) ≡ length (row rows x)
room-unite rows at more within x = elim (cases_eq x at) [
  | inl same ↦
      ap (λ k. length (row (set rows at (union (row rows at) more)) k)) same
      ∙ ap (λ s. length s) (get_or-set_same rows at (union (row rows at) more) [] within)
      ∙ length-those (length (row rows at)) (λ k. has (row rows at) k || has more k) ∙ sym (ap (λ k. length (row rows k)) same)
  | inr other ↦ ap (λ s. length s) (get_or-set_other rows at x (union (row rows at) more) [] other)
]

-- the nodes before x have what is met from them, and the others what they had
pub record HandedDown (parents : Parents) (old rows : List Set) (x : ℕ) : Type 0 where
  pub many : length rows ≡ length old
  pub rooms : (k : ℕ) → length (row rows k) ≡ length (row old k)
  pub done : (k b : ℕ) → k < x → leads rows k b ≡ meets parents (λ z. leads old z b) (length parents) k
  pub to_come : (k b : ℕ) → x ≤ k → leads rows k b ≡ leads old k b

pub handed_at_top : (parents : Parents) (old rows : List Set) (x : ℕ) → HandedDown parents old rows x → parent_of parents x ≡ None → HandedDown parents old rows (x + 1)
handed_at_top parents old rows x h top = record {
  many = h.many;
  rooms = h.rooms;
  done = λ k b before. elim (cases_eq k x) [
    | inl here ↦
        ap (λ j. leads rows j b) here ∙ h.to_come x b (omega arith)
        ∙ sym (ap (meets parents (λ z. leads old z b) (length parents)) here ∙ meets_at_top parents (λ z. leads old z b) (length parents) x top)
    | inr other ↦ h.done k b (omega arith)
  ];
  to_come = λ k b later. h.to_come k b (omega arith);
}

pub handed_more : (parents : Parents) (old rows : List Set) (x p : ℕ) → AreEarlier parents → HandedDown parents old rows x → parent_of parents x ≡ Some p
    → x < length rows → length (row rows x) ≡ length (row rows p) → HandedDown parents old (set rows x (union (row rows x) (row rows p))) (x + 1)
handed_more parents old rows x p earlier h inside within room =
    let more = row rows p in
    let others : (k b : ℕ) → (k ≡ x → ⊥) → leads (set rows x (union (row rows x) more)) k b ≡ leads rows k b = λ k b other.
    leads-unite rows x more within room k b ∙ ap (λ t. leads rows k b || (t && has more b)) (ne_eqb k x other) ∙ or_false (leads rows k b) in
    record {
      many = length-set rows x (union (row rows x) more) ∙ h.many;
      rooms = λ k. room-unite rows x more within k ∙ h.rooms k;
      done = λ k b before. elim (cases_eq k x) [
        | inl here ↦
            ap (λ j. leads (set rows x (union (row rows x) more)) j b) here
            ∙ leads-unite rows x more within room x b
            ∙ ap (λ t. leads rows x b || (t && has more b)) (eq-eqb x x refl)
            ∙ ap (λ t. t || leads rows p b) (h.to_come x b (omega arith))
            ∙ ap (λ t. leads old x b || t) (h.done p b (earlier x p inside))
            ∙ sym (ap (meets parents (λ z. leads old z b) (length parents)) here
            ∙ meets_once parents (λ z. leads old z b) earlier (length parents) x refl
            ∙ ap (λ parent. leads old x b || option_map_or (meets parents (λ z. leads old z b) (length parents)) parent false) inside)
        | inr other ↦ others k b other ∙ h.done k b (omega arith)
      ];
      to_come = λ k b later. others k b (λ same. absurd (omega arith)) ∙ h.to_come k b (omega arith);
    }

-- each row has what it had, and what the first i relations of the kind gather there
pub record Gathered (below : List Set) (kind : ℕ) (relations : List Pair) (old rows : List Set) (i : ℕ) : Type 0 where
  pub many : length rows ≡ length old
  pub rooms : (x : ℕ) → length (row rows x) ≡ length (row old x)
  pub gathered : (x b : ℕ) → leads rows x b ≡ (leads old x b || list_any (gathers below kind x b) (take i relations))

-- a relation of another kind
pub gathered_other : (below : List Set) (kind : ℕ) (relations : List Pair) (old rows : List Set) (i : ℕ) (pair : Pair) → Gathered below kind relations old rows i
    → i < length relations → pair ≡ get_or relations i pair → (kind_number pair.0 ≡ kind → ⊥) → Gathered below kind relations old rows (i + 1)
gathered_other below kind relations old rows i pair h within read other = record {
  many = h.many;
  rooms = h.rooms;
  gathered = λ x b.
      h.gathered x b
      ∙ ap (λ t. leads old x b || t) (sym (
      list_any_more (gathers below kind x b) relations i pair within
      ∙ ap (λ p. list_any (gathers below kind x b) (take i relations) || gathers below kind x b p) (sym read)
      ∙ ap (λ t. list_any (gathers below kind x b) (take i relations) || (t && (eqb x pair.1 && leads below pair.2 b))) (ne_eqb (kind_number pair.0) kind other)
      ∙ or_false (list_any (gathers below kind x b) (take i relations))));
}

-- a relation of the kind
pub gathered_more : (below : List Set) (kind : ℕ) (relations : List Pair) (old rows : List Set) (i : ℕ) (pair : Pair) → Gathered below kind relations old rows i
    → i < length relations → pair ≡ get_or relations i pair → kind_number pair.0 ≡ kind → pair.1 < length rows → length (row rows pair.1) ≡ length (row below pair.2)
    → Gathered below kind relations old (set rows pair.1 (union (row rows pair.1) (row below pair.2))) (i + 1)
gathered_more below kind relations old rows i pair h within read same at room = record {
  many = length-set rows pair.1 (union (row rows pair.1) (row below pair.2)) ∙ h.many;
  rooms = λ x. room-unite rows pair.1 (row below pair.2) at x ∙ h.rooms x;
  gathered = λ x b. or_chain _ _ _ _ _ _
      (leads-unite rows pair.1 (row below pair.2) at room x b)
      (h.gathered x b)
      (list_any_more (gathers below kind x b) relations i pair within
      ∙ ap (λ p. list_any (gathers below kind x b) (take i relations) || gathers below kind x b p) (sym read)
      ∙ ap (λ t. list_any (gathers below kind x b) (take i relations) || (t && (eqb x pair.1 && leads below pair.2 b))) (eq-eqb (kind_number pair.0) kind same));
}
