-- The ascending list of the numbers that pass: what it has, where it begins, and when two tests give one list.
use Rattle.std.proofs.Common.{◌≡◌, ℕ, zero, suc, ◌+◌, ◌<◌, ◌≤◌, inl, inr, Bool, true, false, not, ◌&&◌, eqb, leb, cond, List, [], ◌∷◌, length, Option, Some, None, refl, sym, ap, subst, ◌∙◌, arith}
use Rattle.std.specs.List.{range_with_len, filter, Contains, All, slice_get}
use Rattle.std.specs.List.Sorted.{IsStrictlyIncreasing}
use Rattle.std.proofs.Math.Bool.{and-true, and-false}
use Rattle.std.proofs.lemmas.Bool.{cases_Bool, cases_lt, cases_order, false≢true, lt-leb, le-leb, eq-eqb, ne_eqb}
use Rattle.std.proofs.lemmas.List.FromFn.{length-range_with_len, get_or-range_with_len}
use Rattle.std.proofs.lemmas.List.Elements.{All-contains, All-filter, All-from_get_or, filter_passes}
use Rattle.std.proofs.lemmas.List.Kept.{IsStrictlyIncreasing-filter}
use Rattle.dcr_set.specs.Least.{IsLeast, NonePasses}
use Rattle.dcr_set.specs.EventSet.{has, those, numbers, first_of}
use Rattle.dcr_set.proofs.LeastLemmas.{least-some, least-none}
use Rattle.dcr_set.proofs.SetLemmas.{has_past, length-those, has-those, same_set, those-ext}

-- the numbers from a on that pass, n of them tried
abbrev pub passing : ℕ → ℕ → (ℕ → Bool) → List ℕ
passing a n p = filter p (range_with_len a n)

-- tests that agree on the numbers tried make one list
pub passing-ext : (a n : ℕ) (p q : ℕ → Bool) → ((k : ℕ) → a ≤ k → k < a + n → p k ≡ q k) → passing a n p ≡ passing a n q
passing-ext a zero p q h = refl
passing-ext a (suc n) p q h =
    let rest = passing-ext (a + 1) n p q (λ k l g. h k (omega arith) (omega arith)) in let here = h a (omega arith) (omega arith) in cc

-- where no number passes the list is empty
pub passing_none : (a n : ℕ) (p : ℕ → Bool) → ((k : ℕ) → a ≤ k → k < a + n → p k ≡ false) → passing a n p ≡ []
passing_none a zero p h = refl
passing_none a (suc n) p h = rw (h a (omega arith) (omega arith)) (passing_none (a + 1) n p (λ k l g. h k (omega arith) (omega arith)))

-- numbers from a + m on, where none passes, need not be tried
pub passing_room : (a m n : ℕ) (p : ℕ → Bool) → m ≤ n → ((k : ℕ) → a + m ≤ k → p k ≡ false) → passing a n p ≡ passing a m p
passing_room a zero n p l h = passing_none a n p (λ k g _. h k (omega arith))
passing_room a (suc m) zero p l h = absurd (omega arith)
passing_room a (suc m) (suc n) p l h = let rest = passing_room (a + 1) m n p (omega arith) (λ k g. h k (omega arith)) in cc

-- one number more is tried
pub taken : (a n : ℕ) (p : ℕ → Bool) → p a ≡ true → passing a (suc n) p ≡ a ∷ passing (a + 1) n p
taken a n p passes = ap (λ b. cond b (a ∷ passing (a + 1) n p) (passing (a + 1) n p)) passes

pub skipped : (a n : ℕ) (p : ℕ → Bool) → p a ≡ false → passing a (suc n) p ≡ passing (a + 1) n p
skipped a n p fails = ap (λ b. cond b (a ∷ passing (a + 1) n p) (passing (a + 1) n p)) fails

-- the first that passes stands in front of those after it
pub passing_first : (a n e : ℕ) (p : ℕ → Bool) → a ≤ e → e < a + n → p e ≡ true → ((k : ℕ) → a ≤ k → k < e → p k ≡ false)
    → passing a n p ≡ e ∷ passing a n (λ k. p k && leb (e + 1) k)
passing_first a zero e p l h passes none = absurd (omega arith)
passing_first a (suc n) e p l h passes none =
    let later : ℕ → Bool = λ k. p k && leb (e + 1) k in
    let not_yet : (k : ℕ) → k ≤ e → later k ≡ false = λ k below. ap (λ t. p k && t) (lt-leb (e + 1) k (omega arith)) ∙ and-false (p k) in
    elim (cases_lt a e) [
      | inl more ↦
          skipped a n p (none a (omega arith) more)
          ∙ passing_first (a + 1) n e p (omega arith) (omega arith) passes (λ k g below. none k (omega arith) below)
          ∙ ap (λ xs. e ∷ xs) (sym (skipped a n later (not_yet a (omega arith))))
      | inr here ↦
          let same : a ≡ e = omega arith in
          taken a n p (ap p same ∙ passes)
          ∙ ap (λ xs. a ∷ xs) (passing-ext (a + 1) n p later (λ k g below. sym (ap (λ t. p k && t) (le-leb (e + 1) k (omega arith)) ∙ and-true (p k))))
          ∙ ap (λ xs. a ∷ xs) (sym (skipped a n later (not_yet a (omega arith))))
          ∙ ap (λ x. x ∷ passing a (suc n) later) same
    ]

Contains-tail : (xs : List ℕ) (y x : ℕ) → Contains xs x → Contains (y ∷ xs) x
Contains-tail xs y x found = (suc found.0, omega (arith, found.1), found.2)

-- what passes is in the list
pub in_passing : (a n k : ℕ) (p : ℕ → Bool) → a ≤ k → k < a + n → p k ≡ true → Contains (passing a n p) k
in_passing a zero k p l h passes = absurd (omega arith)
in_passing a (suc n) k p l h passes = elim (cases_lt a k) [
  | inl more ↦
      let rest = in_passing (a + 1) n k p (omega arith) (omega arith) passes in
      elim (cases_Bool (p a)) [
        | inl here ↦ subst (λ xs. Contains xs k) (sym (taken a n p here)) (Contains-tail (passing (a + 1) n p) a k rest)
        | inr fails ↦ subst (λ xs. Contains xs k) (sym (skipped a n p fails)) rest
      ]
  | inr here ↦
      let same : a ≡ k = omega arith in
      subst (λ xs. Contains xs k) (sym (taken a n p (ap p same ∙ passes))) (0, omega arith, same)
]

-- the numbers of a set
pub numbers_is : (s : List Bool) → numbers s ≡ passing 0 (length s) (has s)
unfolding numbers
numbers_is s = refl

-- the numbers of the set of those that pass
pub numbers-those : (n : ℕ) (p : ℕ → Bool) → numbers (those n p) ≡ passing 0 n p
numbers-those n p =
    numbers_is (those n p) ∙ ap (λ m. passing 0 m (has (those n p))) (length-those n p)
    ∙ passing-ext 0 n (has (those n p)) p (λ k _ below. has-those n p k (omega arith))

-- what `set_is_its_numbers` says, part by part
pub numbers-ascend : (s : List Bool) → IsStrictlyIncreasing (numbers s)
unfolding numbers
numbers-ascend s = IsStrictlyIncreasing-filter (has s) (range_with_len 0 (length s)) (range_ascends 0 (length s))
  where
    range_ascends : (a n : ℕ) → IsStrictlyIncreasing (range_with_len a n)
    range_ascends a n k l =
        let within : k + 1 < n = omega (arith, length-range_with_len a n) in
        omega (arith, get_or-range_with_len a n k 0 (omega arith), get_or-range_with_len a n (k + 1) 0 within)

pub numbers-below : (s : List Bool) → All (λ k. k < length s) (numbers s)
unfolding numbers
numbers-below s = All-filter (has s) (λ k. k < length s) (range_with_len 0 (length s)) (All-from_get_or (λ k. k < length s) (range_with_len 0 (length s)) 0 (λ i l.
    let within : i < length s = omega (arith, length-range_with_len 0 (length s)) in omega (arith, get_or-range_with_len 0 (length s) i 0 within)))

pub member_from_numbers : (s : List Bool) (e : ℕ) → Contains (numbers s) e → has s e ≡ true
unfolding numbers
member_from_numbers s e found = All-contains (λ k. has s k ≡ true) (numbers s) e (filter_passes (has s) (range_with_len 0 (length s))) found

pub numbers_from_member : (s : List Bool) (e : ℕ) → has s e ≡ true → Contains (numbers s) e
unfolding numbers
numbers_from_member s e member = elim (cases_lt e (length s)) [
  | inl below ↦ in_passing 0 (length s) e (has s) (omega arith) (omega arith) member
  | inr past ↦ absurd (false≢true (sym (has_past s e past) ∙ member))
]

pub first_of_numbers : (s : List Bool) → first_of s ≡ slice_get (numbers s) 0
first_of_numbers s = found (first_of s) refl
  where
    found : (o : Option ℕ) → first_of s ≡ o → first_of s ≡ slice_get (numbers s) 0
    found None e = e ∙ sym (ap (λ xs. slice_get xs 0) (numbers_is s ∙ passing_none 0 (length s) (has s) (λ k _ below. least-none (length s) (has s) e k (omega arith))))
    found (Some k) e =
        let least = least-some (length s) (has s) k e in
        e ∙ sym (ap (λ xs. slice_get xs 0) (numbers_is s ∙ passing_first 0 (length s) k (has s) (omega arith) (omega (arith, least.below)) least.passes (λ j _ below. least.none_before j below)))

pub set_from_numbers : (s t : List Bool) → length s ≡ length t → numbers s ≡ numbers t → s ≡ t
set_from_numbers s t rooms same = same_set s t rooms (λ k _. agree (has s k) (has t k)
    (λ e. member_from_numbers t k (subst (λ xs. Contains xs k) same (numbers_from_member s k e)))
    (λ e. member_from_numbers s k (subst (λ xs. Contains xs k) (sym same) (numbers_from_member t k e))))
  where
    agree : (a b : Bool) → (a ≡ true → b ≡ true) → (b ≡ true → a ≡ true) → a ≡ b
    agree true b f g = sym (f refl)
    agree false true f g = g refl
    agree false false f g = refl

-- the least number that passes stands in front of the others
pub numbers_first : (n : ℕ) (p : ℕ → Bool) (e : ℕ) → IsLeast n p e → numbers (those n p) ≡ e ∷ numbers (those n (λ k. p k && not (eqb k e)))
numbers_first n p e first =
    numbers-those n p ∙ passing_first 0 n e p (omega arith) (omega (arith, first.below)) first.passes (λ k _ before. first.none_before k before)
    ∙ ap (λ xs. e ∷ xs) (passing-ext 0 n (λ k. p k && leb (e + 1) k) (λ k. p k && not (eqb k e)) (λ k _ _. behind k) ∙ sym (numbers-those n (λ k. p k && not (eqb k e))))
  where
    behind : (k : ℕ) → (p k && leb (e + 1) k) ≡ (p k && not (eqb k e))
    behind k = elim (cases_order k e) [
      | inl same ↦ ap (λ t. p k && t) (lt-leb (e + 1) k (omega arith) ∙ sym (ap not (eq-eqb k e same)))
      | inr (inl before) ↦ ap (λ t. t && leb (e + 1) k) (first.none_before k before) ∙ sym (ap (λ t. t && not (eqb k e)) (first.none_before k before))
      | inr (inr past) ↦ ap (λ t. p k && t) (le-leb (e + 1) k (omega arith) ∙ sym (ap not (ne_eqb k e (λ same. absurd (omega arith)))))
    ]

-- where no number passes the list is empty
pub numbers_none : (n : ℕ) (p : ℕ → Bool) → NonePasses n p → numbers (those n p) ≡ []
numbers_none n p h = numbers-those n p ∙ passing_none 0 n p (λ k _ below. h k (omega arith))

-- tests that agree below the room make one list
pub numbers-ext : (n : ℕ) (p q : ℕ → Bool) → ((k : ℕ) → k < n → p k ≡ q k) → numbers (those n p) ≡ numbers (those n q)
numbers-ext n p q h = ap numbers (those-ext n p q h)
