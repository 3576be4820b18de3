-- Lists: what two functions make of one, what some element passes, and what stands first.
use Rattle.std.proofs.Common.{◌≡◌, ℕ, ◌+◌, ◌≤◌, Bool, true, false, ◌&&◌, ◌||◌, eqb, List, [], ◌∷◌, ◌++◌, get_or, map, Some, None, inl, inr, refl, sym, ap, ◌∙◌, arith}
use Rattle.std.specs.List.{All, list_any, range_with_len, slice_get}
use Rattle.std.proofs.lemmas.Bool.{cases_Bool, cases_eq, cases_lt, eq-eqb, ne_eqb, and_left, and_right, and_from, false≢true}
use Rattle.std.proofs.lemmas.List.{map-id}
use Rattle.std.proofs.lemmas.List.Elements.{All-head, All-tail}
use Rattle.std.proofs.lemmas.List.Folds.{list_any_at, list_any_none}
use Rattle.std.proofs.lemmas.List.FromFn.{get_or-range_with_len, length-range_with_len, map-range_with_len_more}

pub map_same : {X Y : Type 0} (f g : X → Y) (xs : List X) → All (λ x. f x ≡ g x) xs → map f xs ≡ map g xs
map_same f g [] same = refl
map_same f g (x ∷ xs) same =
    ap (λ y. y ∷ map f xs) (All-head (λ x. f x ≡ g x) x xs same)
    ∙ ap (λ ys. g x ∷ ys) (map_same f g xs (All-tail (λ x. f x ≡ g x) x xs same))

-- one number more
pub range_more : (n : ℕ) → range_with_len 0 (n + 1) ≡ range_with_len 0 n ++ n ∷ []
range_more n =
    sym (map-id (range_with_len 0 (n + 1)))
    ∙ map-range_with_len_more (λ k. k) 0 n n (omega arith)
    ∙ ap (λ xs. xs ++ n ∷ []) (map-id (range_with_len 0 n))

-- ---- some element passes

pub any_same : {X : Type 0} (p q : X → Bool) (xs : List X) → All (λ x. p x ≡ q x) xs → list_any p xs ≡ list_any q xs
any_same p q [] same = refl
any_same p q (x ∷ xs) same =
    ap (λ t. t || list_any p xs) (All-head (λ x. p x ≡ q x) x xs same)
    ∙ ap (λ t. q x || t) (any_same p q xs (All-tail (λ x. p x ≡ q x) x xs same))

or_four : (a b c d : Bool) → ((a || b) || (c || d)) ≡ ((a || c) || (b || d))
or_four true b c d = refl
or_four false true true d = refl
or_four false true false d = refl
or_four false false c d = refl

pub any_either : {X : Type 0} (p q : X → Bool) (xs : List X) → list_any (λ x. p x || q x) xs ≡ (list_any p xs || list_any q xs)
any_either p q [] = refl
any_either p q (x ∷ xs) = ap (λ t. (p x || q x) || t) (any_either p q xs) ∙ or_four (p x) (q x) (list_any p xs) (list_any q xs)

-- some pair of the two lists, by the one list first or by the other
pub any_swapped : {X Y : Type 0} (q : X → Y → Bool) (xs : List X) (ys : List Y) → list_any (λ x. list_any (q x) ys) xs ≡ list_any (λ y. list_any (λ x. q x y) xs) ys
any_swapped q [] ys = sym (list_any_none (λ y. false) ys (λ k d within. refl))
any_swapped q (x ∷ xs) ys = ap (λ t. list_any (q x) ys || t) (any_swapped q xs ys) ∙ sym (any_either (q x) (λ y. list_any (λ z. q z y) xs) ys)

-- of the numbers below a bound past which nothing passes, the one that is z
pub picks : (g : ℕ → Bool) (n z : ℕ) → ((k : ℕ) → n ≤ k → g k ≡ false) → list_any (λ y. eqb z y && g y) (range_with_len 0 n) ≡ g z
picks g n z past = elim (cases_Bool (g z)) [
  | inl passes ↦ elim (cases_lt z n) [
    | inl below ↦
        list_any_at (λ y. eqb z y && g y) (range_with_len 0 n) z 0 (omega (arith, length-range_with_len 0 n))
        (ap (λ y. eqb z y && g y) (get_or-range_with_len 0 n z 0 below ∙ (let same : 0 + z ≡ z = omega arith in same)) ∙ and_from (eqb z z) (g z) (eq-eqb z z refl) passes)
        ∙ sym passes
    | inr from ↦ absurd (false≢true (sym (past z from) ∙ passes))
  ]
  | inr fails ↦
      list_any_none (λ y. eqb z y && g y) (range_with_len 0 n) (λ k d within.
      let y = get_or (range_with_len 0 n) k d in
      elim (cases_eq z y) [
        | inl same ↦ and_right (eqb z y) (g y) (ap g (sym same) ∙ fails)
        | inr other ↦ and_left (eqb z y) (g y) (ne_eqb z y other)
      ])
      ∙ sym fails
]

-- ---- what stands first

pub first_here : {A : Type 0} (xs ys : List A) (a : A) → slice_get xs 0 ≡ Some a → slice_get (xs ++ ys) 0 ≡ Some a
first_here [] ys a e = absurd cc
first_here (x ∷ xs) ys a e = e

pub first_behind : {A : Type 0} (xs ys : List A) → slice_get xs 0 ≡ None → slice_get (xs ++ ys) 0 ≡ slice_get ys 0
first_behind [] ys e = refl
first_behind (x ∷ xs) ys e = absurd cc
