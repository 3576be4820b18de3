-- Marks on nodes: one more is set, and the set of the atoms whose nodes are marked.
use Rattle.std.proofs.Common.{◌≡◌, ℕ, ◌+◌, ◌<◌, Bool, true, false, ◌||◌, eqb, List, [], ◌∷◌, ◌++◌, length, get_or, set, take, map, Some, None, inl, inr, refl, sym, ap, ◌∙◌, arith}
use Rattle.std.specs.List.{range_with_len}
use Rattle.std.specs.Option.{option_map_or}
use Rattle.std.proofs.lemmas.Bool.{cases_eq, eq-eqb, ne_eqb}
use Rattle.std.proofs.lemmas.List.{get_or-map, get_or-set_same, get_or-set_other}
use Rattle.std.proofs.lemmas.List.Folds.{list_any_more}
use Rattle.std.proofs.lemmas.List.FromFn.{get_or-map-range_with_len, map-range_with_len_more}
use Rattle.dcr_graph.proofs.BoolLemmas.{or_false, or_true}
use Rattle.dcr_set.specs.EventSet.{those}
use Rattle.dcr_set.proofs.SetLemmas.{those-ext}
use Rattle.dcr_nest.specs.Tree.{Parents, parent_of, AreEarlier, is_parent, is_at_or_below, atoms, atoms_below}
use Rattle.dcr_nest.proofs.TreeLemmas.{same_at_parent, meets_once}
use Rattle.dcr_nest.proofs.AtomLemmas.{atoms-within}

-- what a read of an item says of a list made of the items
pub read_map : {X Y : Type 0} (f : X → Y) (xs : List X) (i : ℕ) (x : X) (e : Y) → i < length xs → x ≡ get_or xs i x → get_or (map f xs) i e ≡ f x
read_map f xs i x e within read = get_or-map f xs i x e within ∙ ap f (sym read)

-- what is pushed at n is what the function gives there
pub map_grown : {X : Type 0} (f : ℕ → X) (n : ℕ) (xs more : List X) (x : X) → xs ≡ map f (range_with_len 0 n) → x ≡ f n → more ≡ xs ++ x ∷ [] → more ≡ map f (range_with_len 0 (n + 1))
map_grown f n xs more x so_far here grown =
    grown ∙ ap (λ ys. ys ++ x ∷ []) so_far ∙ ap (λ y. map f (range_with_len 0 n) ++ y ∷ []) here
    ∙ sym (map-range_with_len_more f 0 n n (omega arith))

-- one more parent is looked at
pub is_parent_more : (parents : Parents) (i x : ℕ) → i < length parents → is_parent (take (i + 1) parents) x ≡ (is_parent (take i parents) x || option_map_or (λ p. eqb p x) (parent_of parents i) false)
is_parent_more parents i x within = list_any_more (λ parent. option_map_or (λ p. eqb p x) parent false) parents i None within

-- a mark is set
pub mark_set : (marks : List Bool) (p x : ℕ) → p < length marks → get_or (set marks p true) x false ≡ (get_or marks x false || eqb p x)
mark_set marks p x within = elim (cases_eq x p) [
  | inl same ↦
      ap (λ k. get_or (set marks p true) k false) same ∙ get_or-set_same marks p true false within
      ∙ sym (ap (λ t. get_or marks x false || t) (eq-eqb p x (sym same)) ∙ or_true (get_or marks x false))
  | inr other ↦
      get_or-set_other marks p x true false other
      ∙ sym (ap (λ t. get_or marks x false || t) (ne_eqb p x (λ same. other (sym same))) ∙ or_false (get_or marks x false))
]

pub parent_marked : (parents : Parents) (i x : ℕ) (marks : List Bool) (p : ℕ) → i < length parents → parent_of parents i ≡ Some p → p < length marks
    → get_or marks x false ≡ is_parent (take i parents) x → get_or (set marks p true) x false ≡ is_parent (take (i + 1) parents) x
parent_marked parents i x marks p within here room before =
    mark_set marks p x room ∙ ap (λ t. t || eqb p x) before
    ∙ ap (λ parent. is_parent (take i parents) x || option_map_or (λ q. eqb q x) parent false) (sym here)
    ∙ sym (is_parent_more parents i x within)

pub none_marked : (parents : Parents) (i x : ℕ) → i < length parents → parent_of parents i ≡ None → is_parent (take i parents) x ≡ is_parent (take (i + 1) parents) x
none_marked parents i x within here =
    sym (is_parent_more parents i x within ∙ ap (λ parent. is_parent (take i parents) x || option_map_or (λ q. eqb q x) parent false) here ∙ or_false (is_parent (take i parents) x))

-- a node is at or below where it is the node, or its parent is marked
next_mark : (parents : Parents) (node x : ℕ) (marks : List Bool) (b : Bool) → AreEarlier parents
    → marks ≡ map (λ y. is_at_or_below parents y node) (range_with_len 0 x)
    → b ≡ (eqb x node || option_map_or (λ p. get_or marks p false) (parent_of parents x) false) → b ≡ is_at_or_below parents x node
next_mark parents node x marks b earlier so_far told =
    told
    ∙ ap (λ t. eqb x node || t) (same_at_parent (λ p. get_or marks p false) (λ p. is_at_or_below parents p node) (parent_of parents x) (λ p here.
    ap (λ ms. get_or ms p false) so_far ∙ get_or-map-range_with_len (λ y. is_at_or_below parents y node) 0 x p p false (earlier x p here) (omega arith)))
    ∙ sym (meets_once parents (λ z. eqb z node) earlier (length parents) x refl)

pub marks_more : (parents : Parents) (node x : ℕ) (marks more : List Bool) (b : Bool) → AreEarlier parents
    → marks ≡ map (λ y. is_at_or_below parents y node) (range_with_len 0 x)
    → b ≡ (eqb x node || option_map_or (λ p. get_or marks p false) (parent_of parents x) false) → more ≡ marks ++ b ∷ []
    → more ≡ map (λ y. is_at_or_below parents y node) (range_with_len 0 (x + 1))
marks_more parents node x marks more b earlier so_far told grown =
    map_grown (λ y. is_at_or_below parents y node) x marks more b so_far (next_mark parents node x marks b earlier so_far told) grown

-- the atoms whose nodes are marked are those at or below the node
pub atoms_marked : (parents : Parents) (node : ℕ) (xs : List ℕ) (marks : List Bool) → xs ≡ atoms parents
    → marks ≡ map (λ x. is_at_or_below parents x node) (range_with_len 0 (length parents))
    → those (length xs) (λ e. get_or marks (get_or xs e 0) false) ≡ atoms_below parents node
unfolding atoms_below
atoms_marked parents node xs marks these all =
    ap (λ ys. those (length ys) (λ e. get_or marks (get_or ys e 0) false)) these
    ∙ those-ext (length (atoms parents)) (λ e. get_or marks (get_or (atoms parents) e 0) false) (λ e. is_at_or_below parents (get_or (atoms parents) e 0) node) (λ e within.
    ap (λ ms. get_or ms (get_or (atoms parents) e 0) false) all
    ∙ get_or-map-range_with_len (λ x. is_at_or_below parents x node) 0 (length parents) (get_or (atoms parents) e 0) (get_or (atoms parents) e 0) false
    (atoms-within parents e 0 within) (omega arith))
