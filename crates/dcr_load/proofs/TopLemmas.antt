-- Nodes none of which has a parent: each is an atom, with its own number, and at or below itself alone.
use Rattle.std.proofs.Common.{◌≡◌, ℕ, Bool, true, false, not, cond, eqb, List, [], ◌∷◌, length, get_or, filter, Option, None, inl, inr, refl, sym, ap, ◌∙◌, arith}
use Rattle.std.specs.List.{range_with_len}
use Rattle.std.specs.Option.{option_map_or}
use Rattle.std.proofs.lemmas.Bool.{cases_lt, eqb-true, false≢true}
use Rattle.std.proofs.lemmas.List.{get_or_past}
use Rattle.std.proofs.lemmas.List.Folds.{list_any_none}
use Rattle.std.proofs.lemmas.List.FromFn.{length-range_with_len, get_or-range_with_len}
use Rattle.std.proofs.lemmas.Option.{none-some}
use Rattle.dcr_set.specs.EventSet.{has}
use Rattle.dcr_set.proofs.SetLemmas.{has-those, has_past-those}
use Rattle.dcr_nest.specs.Tree.{Parents, parent_of, AreEarlier, is_at_or_below, is_parent, atoms, atoms_below}
use Rattle.dcr_nest.proofs.TreeLemmas.{meets_at_top}
use Rattle.dcr_load.specs.Each.{each_below}
use Rattle.dcr_load.proofs.EachLemmas.{length-each_below, get_or-each_below}

-- so many nodes without a parent
abbrev pub tops : ℕ → Parents
tops n = each_below n (λ _. None)

pub no_parent : (n x : ℕ) → parent_of (tops n) x ≡ None
no_parent n x = elim (cases_lt x n) [
  | inl within ↦ get_or-each_below n (λ _. None) x None within
  | inr past ↦ get_or_past (tops n) x None (let many = length-each_below {A = Option ℕ} n (λ _. None) in omega arith)
]

pub tops_earlier : (n : ℕ) → AreEarlier (tops n)
tops_earlier n x p is = absurd (none-some p (sym (no_parent n x) ∙ is))

no_child : (n x : ℕ) → is_parent (tops n) x ≡ false
no_child n x = list_any_none (λ parent. option_map_or (λ p. eqb p x) parent false) (tops n) (λ k d within.
    ap (λ parent. option_map_or (λ p. eqb p x) parent false)
    (get_or-each_below n (λ _. None) k d (let many = length-each_below {A = Option ℕ} n (λ _. None) in omega arith)))

filter_all : (p : ℕ → Bool) → ((x : ℕ) → p x ≡ true) → (xs : List ℕ) → filter p xs ≡ xs
filter_all p passes [] = refl
filter_all p passes (x ∷ xs) = ap (λ t. cond t (x ∷ filter p xs) (filter p xs)) (passes x) ∙ ap (λ ys. x ∷ ys) (filter_all p passes xs)

atoms_of_tops : (n : ℕ) → atoms (tops n) ≡ range_with_len 0 n
unfolding atoms
atoms_of_tops n =
    filter_all (λ x. not (is_parent (tops n) x)) (λ x. ap not (no_child n x)) (range_with_len 0 (length (tops n)))
    ∙ ap (range_with_len 0) (length-each_below n (λ _. None))

pub count_of_tops : (n : ℕ) → length (atoms (tops n)) ≡ n
count_of_tops n = ap length (atoms_of_tops n) ∙ length-range_with_len 0 n

-- what is at or below a node is the node itself
pub only_itself : (n y a : ℕ) → has (atoms_below (tops n) y) a ≡ true → a ≡ y
unfolding atoms_below
only_itself n y a is =
    let many = count_of_tops n in
    let below : ℕ → Bool = λ e. is_at_or_below (tops n) (get_or (atoms (tops n)) e 0) y in
    elim (cases_lt a (length (atoms (tops n)))) [
      | inl within ↦ (
          let here : get_or (atoms (tops n)) a 0 ≡ a = ap (λ xs. get_or xs a 0) (atoms_of_tops n) ∙ get_or-range_with_len 0 n a 0 (omega arith) ∙ omega arith in
          let met : eqb a y ≡ true =
          sym (ap (λ x. is_at_or_below (tops n) x y) here ∙ meets_at_top (tops n) (λ z. eqb z y) (length (tops n)) a (no_parent n a))
          ∙ sym (has-those (length (atoms (tops n))) below a within) ∙ is in
          eqb-true a y met)
      | inr past ↦ absurd (false≢true (sym (has_past-those (length (atoms (tops n))) below a past) ∙ is))
    ]
