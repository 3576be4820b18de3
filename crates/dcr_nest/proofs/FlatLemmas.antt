-- The flat relation: what the rows that were gathered and handed down have, and its tables.
use Rattle.std.proofs.Common.{◌≡◌, ℕ, ◌<◌, ◌≤◌, Bool, false, ◌&&◌, ◌||◌, eqb, List, [], ◌∷◌, length, get_or, map, inl, inr, refl, sym, ap, ◌∙◌, arith}
use mathlib.Core.Path.{fun_ext}
use Rattle.std.specs.List.{All, list_any, range_with_len}
use Rattle.std.specs.Str.{bytes_eq}
use Rattle.std.proofs.lemmas.Bool.{cases_lt}
use Rattle.std.proofs.lemmas.List.{get_or-map, get_or_past, length-map}
use Rattle.std.proofs.lemmas.List.Elements.{All-head, All-map, All-tail}
use Rattle.std.proofs.lemmas.List.Folds.{list_any_none}
use Rattle.std.proofs.lemmas.List.FromFn.{length-map-range_with_len, get_or-map-range_with_len, fill_by_all}
use Rattle.dcr_graph.proofs.BoolLemmas.{and_comm, and_false}
use Rattle.dcr_graph.proofs.GraphLemmas.{kind_number_below, same_rules}
use Rattle.dcr_graph.specs.GraphValue.{flat, rules_of}
use Rattle.dcr_graph.specs.Names.{AreDistinct}
use Rattle.dcr_graph.specs.Pairs.{Pair, AreInRange}
use Rattle.dcr_graph.specs.Rows.{row, leads}
use Rattle.dcr_graph.specs.Rules.{kind_number}
use Rattle.dcr_set.specs.EventSet.{Set, has, those}
use Rattle.dcr_set.proofs.SetLemmas.{length-those, has-those, has_past, has_past-those, same_set}
use Rattle.dcr_nest.specs.FlatRelation.{is_related, flat_relation, of_atoms, related_rows, gathers}
use Rattle.dcr_nest.specs.Nest.{Nest, parents_of}
use Rattle.dcr_nest.specs.Tree.{Parents, meets, is_at_or_below, atoms, atoms_below}
use Rattle.dcr_nest.proofs.AtomLemmas.{atoms-within, atoms-ascend}
use Rattle.dcr_nest.proofs.TreeLemmas.{meets-any}

list_any-ext : {X : Type 0} (p q : X → Bool) (xs : List X) → All (λ x. p x ≡ q x) xs → list_any p xs ≡ list_any q xs
list_any-ext p q [] same = refl
list_any-ext p q (x ∷ xs) same =
    ap (λ t. t || list_any p xs) (All-head (λ x. p x ≡ q x) x xs same)
    ∙ ap (λ t. q x || t) (list_any-ext p q xs (All-tail (λ x. p x ≡ q x) x xs same))

list_any-map : {X Y : Type 0} (p : Y → Bool) (f : X → Y) (xs : List X) → list_any p (map f xs) ≡ list_any (λ x. p (f x)) xs
list_any-map p f [] = refl
list_any-map p f (x ∷ xs) = ap (λ t. p (f x) || t) (list_any-map p f xs)

pub room-atoms_below : (parents : Parents) (y : ℕ) → length (atoms_below parents y) ≡ length (atoms parents)
unfolding atoms_below
room-atoms_below parents y = length-those (length (atoms parents)) (λ e. is_at_or_below parents (get_or (atoms parents) e 0) y)

pub has-atoms_below : (parents : Parents) (y e : ℕ) → e < length (atoms parents) → has (atoms_below parents y) e ≡ is_at_or_below parents (get_or (atoms parents) e 0) y
unfolding atoms_below
has-atoms_below parents y e within = has-those (length (atoms parents)) (λ k. is_at_or_below parents (get_or (atoms parents) k 0) y) e within

past-atoms_below : (parents : Parents) (y e : ℕ) → length (atoms parents) ≤ e → has (atoms_below parents y) e ≡ false
past-atoms_below parents y e past = has_past (atoms_below parents y) e (let room = room-atoms_below parents y in omega arith)

-- the set below a node, among those of all nodes
pub row_below : (parents : Parents) (below : List Set) (y : ℕ) → below ≡ map (atoms_below parents) (range_with_len 0 (length parents)) → y < length parents → row below y ≡ atoms_below parents y
row_below parents below y all within = ap (λ rows. row rows y) all ∙ get_or-map-range_with_len (atoms_below parents) 0 (length parents) y y [] within (omega arith)

-- what is no atom is not related
unrelated_source : (parents : Parents) (relations : List Pair) (kind a b : ℕ) → length (atoms parents) ≤ a → is_related parents relations kind a b ≡ false
unfolding is_related
unrelated_source parents relations kind a b past =
    list_any_none (λ (pair : Pair). eqb (kind_number pair.0) kind && (has (atoms_below parents pair.1) a && has (atoms_below parents pair.2) b)) relations (λ k d _.
    let pair = get_or relations k d in
    ap (λ t. eqb (kind_number pair.0) kind && (t && has (atoms_below parents pair.2) b)) (past-atoms_below parents pair.1 a past) ∙ and_false (eqb (kind_number pair.0) kind))

unrelated_target : (parents : Parents) (relations : List Pair) (kind a b : ℕ) → length (atoms parents) ≤ b → is_related parents relations kind a b ≡ false
unfolding is_related
unrelated_target parents relations kind a b past =
    list_any_none (λ (pair : Pair). eqb (kind_number pair.0) kind && (has (atoms_below parents pair.1) a && has (atoms_below parents pair.2) b)) relations (λ k d _.
    let pair = get_or relations k d in
    ap (λ t. eqb (kind_number pair.0) kind && (has (atoms_below parents pair.1) a && t)) (past-atoms_below parents pair.2 b past)
    ∙ ap (λ t. eqb (kind_number pair.0) kind && t) (and_false (has (atoms_below parents pair.1) a)) ∙ and_false (eqb (kind_number pair.0) kind))

-- the relations turned round relate the other way
pub related-turned : (parents : Parents) (relations : List Pair) (kind a b : ℕ)
    → is_related parents (map (λ (pair : Pair). let turned : Pair = (pair.0, pair.2, pair.1) in turned) relations) kind b a ≡ is_related parents relations kind a b
unfolding is_related
related-turned parents relations kind a b =
    list_any-map (λ (pair : Pair). eqb (kind_number pair.0) kind && (has (atoms_below parents pair.1) b && has (atoms_below parents pair.2) a))
    (λ (pair : Pair). let turned : Pair = (pair.0, pair.2, pair.1) in turned) relations
    ∙ list_any-ext (λ (pair : Pair). eqb (kind_number pair.0) kind && (has (atoms_below parents pair.2) b && has (atoms_below parents pair.1) a))
    (λ (pair : Pair). eqb (kind_number pair.0) kind && (has (atoms_below parents pair.1) a && has (atoms_below parents pair.2) b)) relations
    (λ k d _. let pair = get_or relations k d in ap (λ t. eqb (kind_number pair.0) kind && t) (and_comm (has (atoms_below parents pair.2) b) (has (atoms_below parents pair.1) a)))

-- the rows of the flat relation
pub length-related : (parents : Parents) (relations : List Pair) (kind : ℕ) → length (related_rows parents relations kind) ≡ length (atoms parents)
length-related parents relations kind =
    length-map-range_with_len (λ a. those (length (atoms parents)) (is_related parents relations kind a)) 0 (length (atoms parents))

row-related : (parents : Parents) (relations : List Pair) (kind a : ℕ) → a < length (atoms parents)
    → row (related_rows parents relations kind) a ≡ those (length (atoms parents)) (is_related parents relations kind a)
row-related parents relations kind a within =
    get_or-map-range_with_len (λ a. those (length (atoms parents)) (is_related parents relations kind a)) 0 (length (atoms parents)) a a [] within (omega arith)

pub room-related : (parents : Parents) (relations : List Pair) (kind a : ℕ) → a < length (atoms parents)
    → length (row (related_rows parents relations kind) a) ≡ length (atoms parents)
room-related parents relations kind a within =
    ap (λ s. length s) (row-related parents relations kind a within) ∙ length-those (length (atoms parents)) (is_related parents relations kind a)

pub leads-related : (parents : Parents) (relations : List Pair) (kind a b : ℕ) → leads (related_rows parents relations kind) a b ≡ is_related parents relations kind a b
leads-related parents relations kind a b = elim (cases_lt a (length (atoms parents))) [
  | inl within ↦ ap (λ s. has s b) (row-related parents relations kind a within) ∙ elim (cases_lt b (length (atoms parents))) [
    | inl inside ↦ has-those (length (atoms parents)) (is_related parents relations kind a) b inside
    | inr past ↦ has_past-those (length (atoms parents)) (is_related parents relations kind a) b past ∙ sym (unrelated_target parents relations kind a b past)
  ]
  | inr past ↦
      ap (λ s. has s b) (get_or_past (related_rows parents relations kind) a [] (let many = length-related parents relations kind in omega arith))
      ∙ sym (unrelated_source parents relations kind a b past)
]

-- what was gathered at nodes and handed down to an atom is what the atom is related to
met_is_related : (parents : Parents) (relations : List Pair) (kind a b : ℕ) (below : List Set) → below ≡ map (atoms_below parents) (range_with_len 0 (length parents))
    → AreInRange (length parents) relations → a < length (atoms parents)
    → meets parents (λ z. list_any (gathers below kind z b) relations) (length parents) (get_or (atoms parents) a 0) ≡ is_related parents relations kind a b
unfolding is_related
met_is_related parents relations kind a b below all ends within =
    let x = get_or (atoms parents) a 0 in
    meets-any parents (λ (pair : Pair). eqb (kind_number pair.0) kind) (λ (pair : Pair). leads below pair.2 b) (λ (pair : Pair). pair.1) relations (length parents) x
    ∙ list_any-ext (λ (pair : Pair). eqb (kind_number pair.0) kind && (is_at_or_below parents x pair.1 && leads below pair.2 b))
    (λ (pair : Pair). eqb (kind_number pair.0) kind && (has (atoms_below parents pair.1) a && has (atoms_below parents pair.2) b)) relations
    (λ k d inside.
    let pair = get_or relations k d in
    ap (λ t. eqb (kind_number pair.0) kind && (t && leads below pair.2 b)) (sym (has-atoms_below parents pair.1 a within))
    ∙ ap (λ s. eqb (kind_number pair.0) kind && (has (atoms_below parents pair.1) a && has s b)) (row_below parents below pair.2 all (ends k d inside).1))

pub spread_is_related : (parents : Parents) (relations : List Pair) (kind : ℕ) (below gathered spread : List Set)
    → below ≡ map (atoms_below parents) (range_with_len 0 (length parents)) → AreInRange (length parents) relations
    → ((x b : ℕ) → leads gathered x b ≡ list_any (gathers below kind x b) relations)
    → ((x b : ℕ) → x < length parents → leads spread x b ≡ meets parents (λ z. leads gathered z b) (length parents) x)
    → ((x : ℕ) → x < length parents → length (row spread x) ≡ length (atoms parents))
    → map (row spread) (atoms parents) ≡ related_rows parents relations kind
spread_is_related parents relations kind below gathered spread all ends gather hand rooms =
    let n = length (atoms parents) in
    fill_by_all (λ a. those n (is_related parents relations kind a)) (map (row spread) (atoms parents)) n [] (length-map (atoms parents) (row spread)) (λ a within.
    let x = get_or (atoms parents) a 0 in
    let inside = atoms-within parents a 0 within in
    get_or-map (row spread) (atoms parents) a 0 [] within
    ∙ same_set (row spread x) (those n (is_related parents relations kind a)) (rooms x inside ∙ sym (length-those n (is_related parents relations kind a))) (λ b below_room.
    hand x b inside
    ∙ ap (λ f. meets parents f (length parents) x) (fun_ext (λ z. gather z b))
    ∙ met_is_related parents relations kind a b below all ends within
    ∙ sym (has-those n (is_related parents relations kind a) b (let room = rooms x inside in omega arith))))

-- the graph of the tables
pub flat_rules : (N : Nest) (names labels : List (List ℕ)) (tables : List (List Set)) → length names ≡ length (atoms (parents_of N.nodes))
    → tables ≡ map (related_rows (parents_of N.nodes) N.relations) (range_with_len 0 6) → rules_of (flat names labels tables) ≡ flat_relation N
flat_rules N names labels tables many all =
    same_rules (rules_of (flat names labels tables)) (flat_relation N) many (λ kind a b.
    ap (λ ts. leads (get_or ts (kind_number kind) []) a b) all
    ∙ ap (λ table. leads table a b) (get_or-map-range_with_len (related_rows (parents_of N.nodes) N.relations) 0 6 (kind_number kind) (kind_number kind) [] (kind_number_below kind) (omega arith))
    ∙ leads-related (parents_of N.nodes) N.relations (kind_number kind) a b)

pub length-of_atoms : (parents : Parents) (texts : List (List ℕ)) → length (of_atoms parents texts) ≡ length (atoms parents)
length-of_atoms parents texts = length-map (atoms parents) (λ x. get_or texts x [])

-- atoms have names of their own
pub distinct_atoms : (parents : Parents) (texts : List (List ℕ)) → length parents ≡ length texts → AreDistinct texts → AreDistinct (of_atoms parents texts)
distinct_atoms parents texts many distinct i j before within =
    let n = length-of_atoms parents texts in
    let inside : j < length (atoms parents) = omega arith in
    let x = get_or (atoms parents) i 0 in let y = get_or (atoms parents) j 0 in
    let last = atoms-within parents j 0 inside in
    ap (λ t. bytes_eq t (get_or (of_atoms parents texts) j [])) (get_or-map (λ k. get_or texts k []) (atoms parents) i 0 [] (omega arith))
    ∙ ap (bytes_eq (get_or texts x [])) (get_or-map (λ k. get_or texts k []) (atoms parents) j 0 [] inside)
    ∙ distinct x y (atoms-ascend parents i j 0 before inside) (omega arith)

-- what is so of the texts of the nodes is so of those of the atoms
pub all_atoms : (P : List ℕ → Type 0) (parents : Parents) (texts : List (List ℕ)) → length parents ≡ length texts → All P texts → All P (of_atoms parents texts)
all_atoms P parents texts many are = All-map P (λ x. get_or texts x []) (atoms parents) (λ k d within.
    let below = atoms-within parents k d within in are (get_or (atoms parents) k d) [] (omega arith))
