-- What `least` finds, and when two tests have one least number.
use Rattle.std.proofs.Common.{◌≡◌, ℕ, zero, suc, ◌+◌, ◌<◌, ◌≤◌, inl, inr, Bool, true, false, ◌||◌, cond, ◌∷◌, Option, Some, None, is_some, refl, sym, ap, ◌∙◌, arith}
use Rattle.std.specs.List.{range_with_len, filter, slice_get}
use Rattle.std.proofs.lemmas.Bool.{cases_lt, false≢true}
use Rattle.dcr_set.specs.Least.{least, some_below, lesser, IsLeast, NonePasses}

-- the first that passes of the n numbers from a on
abbrev first_from : ℕ → ℕ → (ℕ → Bool) → Option ℕ
first_from a n p = slice_get (filter p (range_with_len a n)) 0

-- k is the first of the numbers from a on that passes
record IsFirst (a n : ℕ) (p : ℕ → Bool) (k : ℕ) : Type 0 where
  pub from : a ≤ k
  pub below : k < a + n
  pub passes : p k ≡ true
  pub none_before : (j : ℕ) → a ≤ j → j < k → p j ≡ false

none_from : (a n : ℕ) (p : ℕ → Bool) → ((j : ℕ) → a ≤ j → j < a + n → p j ≡ false) → first_from a n p ≡ None
none_from a zero p h = refl
none_from a (suc n) p h = rw (h a (omega arith) (omega arith)) (none_from (a + 1) n p (λ j l g. h j (omega arith) (omega arith)))

-- what is found of a number and those behind it
first_found : (a n : ℕ) (p : ℕ → Bool) (k : ℕ) (here : Bool) → p a ≡ here → slice_get (cond here (a ∷ filter p (range_with_len (a + 1) n)) (filter p (range_with_len (a + 1) n))) 0 ≡ Some k
    → (first_from (a + 1) n p ≡ Some k → IsFirst (a + 1) n p k) → IsFirst a (suc n) p k
first_found a n p k true passes found later =
    let same : a ≡ k = cc in record { from = omega arith; below = omega arith; passes = ap p (sym same) ∙ passes; none_before = λ j l g. absurd (omega arith) }
first_found a n p k false fails found later =
    let rest = later found in record {
      from = (let l = rest.from in omega arith);
      below = (let l = rest.below in omega arith);
      passes = rest.passes;
      none_before = λ j l g. elim (cases_lt a j) [ inl more ↦ rest.none_before j (omega arith) g | inr at ↦ ap p (let same : j ≡ a = omega arith in same) ∙ fails ];
    }

first_some : (a n : ℕ) (p : ℕ → Bool) (k : ℕ) → first_from a n p ≡ Some k → IsFirst a n p k
first_some a zero p k e = absurd cc
first_some a (suc n) p k e = first_found a n p k (p a) refl e (first_some (a + 1) n p k)

-- where nothing is found neither the number nor one behind it passes
none_found : (a n : ℕ) (p : ℕ → Bool) (here : Bool) → p a ≡ here → slice_get (cond here (a ∷ filter p (range_with_len (a + 1) n)) (filter p (range_with_len (a + 1) n))) 0 ≡ None
    → (first_from (a + 1) n p ≡ None → (j : ℕ) → a + 1 ≤ j → j < (a + 1) + n → p j ≡ false) → (j : ℕ) → a ≤ j → j < a + suc n → p j ≡ false
none_found a n p true passes none later j l g = absurd cc
none_found a n p false fails none later j l g =
    elim (cases_lt a j) [ inl more ↦ later none j (omega arith) (omega arith) | inr at ↦ ap p (let same : j ≡ a = omega arith in same) ∙ fails ]

first_none : (a n : ℕ) (p : ℕ → Bool) → first_from a n p ≡ None → (j : ℕ) → a ≤ j → j < a + n → p j ≡ false
first_none a zero p e j l g = absurd (omega arith)
first_none a (suc n) p e j l g = none_found a n p (p a) refl e (first_none (a + 1) n p) j l g

-- where nothing passes there is none
pub least-none_from : (n : ℕ) (p : ℕ → Bool) → NonePasses n p → least n p ≡ None
unfolding least
least-none_from n p h = none_from 0 n p (λ j _ below. h j (omega arith))

-- where there is none nothing passes
pub least-none : (n : ℕ) (p : ℕ → Bool) → least n p ≡ None → NonePasses n p
unfolding least
least-none n p e j below = first_none 0 n p e j (omega arith) (omega arith)

-- what is found is the least
pub least-some : (n : ℕ) (p : ℕ → Bool) (k : ℕ) → least n p ≡ Some k → IsLeast n p k
unfolding least
least-some n p k e =
    let first = first_some 0 n p k e in
    record { below = (let l = first.below in omega arith); passes = first.passes; none_before = λ j l. first.none_before j (omega arith) l }

-- two numbers that are the least are one
one_least : (n : ℕ) (p : ℕ → Bool) (j k : ℕ) → IsLeast n p j → IsLeast n p k → j ≡ k
one_least n p j k h i = elim (cases_lt j k) [
  | inl lower ↦ absurd (false≢true (sym (i.none_before j lower) ∙ h.passes))
  | inr from ↦ elim (cases_lt k j) [ inl lower ↦ absurd (false≢true (sym (h.none_before k lower) ∙ i.passes)) | inr other ↦ omega arith ]
]

-- the least is what is found
pub least-from : (n : ℕ) (p : ℕ → Bool) (k : ℕ) → IsLeast n p k → least n p ≡ Some k
least-from n p k h = by (least n p) refl
  where
    by : (o : Option ℕ) → least n p ≡ o → least n p ≡ Some k
    by None e = absurd (false≢true (sym (least-none n p e k h.below) ∙ h.passes))
    by (Some j) e = e ∙ ap Some (one_least n p j k (least-some n p j e) h)

-- ---- one number more

-- the first that was found, else this number if it passes
abbrev pub or_this : Option ℕ → ℕ → Bool → Option ℕ
or_this (Some k) n passes = Some k
or_this None n passes = cond passes (Some n) None

-- the least below no number is none
pub least-zero : (p : ℕ → Bool) → least 0 p ≡ None
least-zero p = least-none_from 0 p (λ j below. absurd (omega arith))

-- the bound is tried last
pub least-suc : (n : ℕ) (p : ℕ → Bool) → least (suc n) p ≡ or_this (least n p) n (p n)
least-suc n p = by (least n p) (p n) refl refl
  where
    by : (o : Option ℕ) (b : Bool) → least n p ≡ o → p n ≡ b → least (suc n) p ≡ or_this o n b
    by (Some k) b e here =
        let before = least-some n p k e in
        least-from (suc n) p k (record { below = (let l = before.below in omega arith); passes = before.passes; none_before = before.none_before })
    by None true e here = least-from (suc n) p n (record { below = omega arith; passes = here; none_before = least-none n p e })
    by None false e here = least-none_from (suc n) p (λ j below. elim (cases_lt j n) [ inl lower ↦ least-none n p e j lower | inr last ↦ ap p (let same : j ≡ n = omega arith in same) ∙ here ])

-- tests that agree below the bound have one least number
pub least-ext : (n : ℕ) (p q : ℕ → Bool) → ((j : ℕ) → j < n → p j ≡ q j) → least n p ≡ least n q
least-ext n p q h = by (least n q) refl
  where
    by : (o : Option ℕ) → least n q ≡ o → least n p ≡ least n q
    by None e = least-none_from n p (λ j below. h j below ∙ least-none n q e j below) ∙ sym e
    by (Some k) e =
        let found = least-some n q k e in
        least-from n p k (record { below = found.below; passes = h k found.below ∙ found.passes; none_before = λ j before. h j (let l = found.below in omega arith) ∙ found.none_before j before }) ∙ sym e

-- a bound past which nothing passes may be lowered to it
pub least-room : (m n : ℕ) (p : ℕ → Bool) → m ≤ n → ((j : ℕ) → m ≤ j → p j ≡ false) → least n p ≡ least m p
least-room m n p l h = by (least m p) refl
  where
    by : (o : Option ℕ) → least m p ≡ o → least n p ≡ least m p
    by None e = least-none_from n p (λ j below. elim (cases_lt j m) [ inl lower ↦ least-none m p e j lower | inr past ↦ h j past ]) ∙ sym e
    by (Some k) e =
        let found = least-some m p k e in
        least-from n p k (record { below = (let b = found.below in omega arith); passes = found.passes; none_before = found.none_before }) ∙ sym e

-- ---- some number that passes

-- some number below passes
pub some_below-at : (n : ℕ) (p : ℕ → Bool) (k : ℕ) → k < n → p k ≡ true → some_below n p ≡ true
some_below-at n p k below passes = by (least n p) refl
  where
    by : (o : Option ℕ) → least n p ≡ o → is_some (least n p) ≡ true
    by (Some j) e = ap is_some e
    by None e = absurd (false≢true (sym (least-none n p e k below) ∙ passes))

-- and so there is one
pub some_below-from : (n : ℕ) (p : ℕ → Bool) → some_below n p ≡ true → (k : ℕ) × (k < n) × (p k ≡ true)
some_below-from n p h = by (least n p) refl
  where
    by : (o : Option ℕ) → least n p ≡ o → (k : ℕ) × (k < n) × (p k ≡ true)
    by (Some k) e = let found = least-some n p k e in (k, found.below, found.passes)
    by None e = absurd (false≢true (ap is_some (sym e) ∙ h))

-- ---- the lesser of two

-- two numbers below n, each replaced by n where it is missing and a test says so
lesser_or_this : (a b : Option ℕ) (n : ℕ) (p q : Bool) → ((k : ℕ) → a ≡ Some k → k < n) → ((k : ℕ) → b ≡ Some k → k < n)
    → lesser (or_this a n p) (or_this b n q) ≡ or_this (lesser a b) n (p || q)
lesser_or_this (Some i) (Some j) n p q ha hb = refl
lesser_or_this (Some i) None n p true ha hb = let below = ha i refl in ap Some (omega arith)
lesser_or_this (Some i) None n p false ha hb = refl
lesser_or_this None (Some j) n true q ha hb = let below = hb j refl in ap Some (omega arith)
lesser_or_this None (Some j) n false q ha hb = refl
lesser_or_this None None n true true ha hb = ap Some (omega arith)
lesser_or_this None None n true false ha hb = refl
lesser_or_this None None n false true ha hb = refl
lesser_or_this None None n false false ha hb = refl

-- the lesser of the least that pass two tests is the least that passes one of them
pub lesser-least : (n : ℕ) (p q : ℕ → Bool) → lesser (least n p) (least n q) ≡ least n (λ a. p a || q a)
lesser-least zero p q = ap (λ o. lesser o (least 0 q)) (least-zero p) ∙ least-zero q ∙ sym (least-zero (λ a. p a || q a))
lesser-least (suc n) p q =
    ap (λ o. lesser o (least (suc n) q)) (least-suc n p) ∙ ap (lesser (or_this (least n p) n (p n))) (least-suc n q)
    ∙ lesser_or_this (least n p) (least n q) n (p n) (q n) (λ k found. (least-some n p k found).below) (λ k found. (least-some n q k found).below)
    ∙ ap (λ o. or_this o n (p n || q n)) (lesser-least n p q)
    ∙ sym (least-suc n (λ a. p a || q a))
