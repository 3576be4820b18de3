-- Facts in order, single facts, and facts that a loop tries one by one.
use Rattle.std.proofs.Common.{◌≡◌, inl, inr, ℕ, zero, suc, ◌+◌, ◌<◌, ◌≤◌, Bool, true, false, cond, not, nat_le, nat_lt, List, [], ◌∷◌, ◌++◌, length, get_or, map, Option, Some, None, option_map, refl, sym, ap, ◌∙◌, arith}
use Rattle.std.specs.List.{All, position, position_or_len, range_with_len}
use Rattle.std.proofs.lemmas.List.{length-map}
use Rattle.std.proofs.lemmas.Bool.{cases_lt, le-ltb, leb-true, le-leb, ltb-true, ltb-false}
use Rattle.std.proofs.lemmas.Option.{cond_some}
use Rattle.dcr_set.specs.Least.{least}
use Rattle.dcr_set.proofs.LeastLemmas.{least-none, least-from, least-none_from}
use Rattle.dcr_format.specs.Facts.{Fact, unless, each, each_below, at_most, first, facts_below}
use Rattle.dcr_format.specs.declared.stop.CaseStop.{CaseStop}
use Rattle.dcr_format.specs.declared.stop.CaseStop.TheVariants.{Limit}
use Rattle.dcr_format.specs.declared.stop.LimitKind.{LimitKind}

-- ---- in order

pub first_none : (f : Fact) (facts : List Fact) → first (f ∷ facts) ≡ None → (f ≡ None) × (first facts ≡ None)
first_none None facts e = (refl, e)
first_none (Some stop) facts e = absurd cc

pub first_past : (f : Fact) (facts : List Fact) → f ≡ None → first (f ∷ facts) ≡ first facts
first_past f facts e = ap (λ g. first (g ∷ facts)) e

pub first_here : (f : Fact) (facts : List Fact) (stop : CaseStop) → f ≡ Some stop → first (f ∷ facts) ≡ Some stop
first_here f facts stop e = ap (λ g. first (g ∷ facts)) e

-- one list after another
pub append_past : (fs gs : List Fact) → first fs ≡ None → first (fs ++ gs) ≡ first gs
append_past [] gs e = refl
append_past (None ∷ fs) gs e = append_past fs gs e
append_past (Some stop ∷ fs) gs e = absurd cc

pub append_here : (fs gs : List Fact) (stop : CaseStop) → first fs ≡ Some stop → first (fs ++ gs) ≡ Some stop
append_here [] gs stop e = absurd cc
append_here (None ∷ fs) gs stop e = append_here fs gs stop e
append_here (Some other ∷ fs) gs stop e = e

-- ---- single facts

pub unless_holds : (b : Bool) (stop : CaseStop) → unless b stop ≡ None → b ≡ true
unless_holds true stop e = refl
unless_holds false stop e = absurd cc

pub at_most_holds : (kind : LimitKind) (most count : ℕ) → at_most kind most count ≡ None → count ≤ most
at_most_holds kind most count e = leb-true count most (unless_holds (nat_le count most) (Limit kind count) e)

pub at_most_none : (kind : LimitKind) (most count : ℕ) → count ≤ most → at_most kind most count ≡ None
at_most_none kind most count l = ap (λ b. unless b (Limit kind count)) (le-leb count most l)

turned : (b : Bool) → not b ≡ false → b ≡ true
turned true e = refl
turned false e = absurd cc

-- ---- each of a list

pub position_within : {A : Type 0} (p : A → Bool) (xs : List A) (i : ℕ) → position p xs ≡ Some i → i < length xs
position_within p xs i e =
    let found = cond_some (nat_lt (position_or_len p xs) (length xs)) (position_or_len p xs) i e in
    let below = ltb-true (position_or_len p xs) (length xs) found.0 in
    let same = found.1 in omega arith

length-position : {A B : Type 0} (p : B → Bool) (f : A → B) (xs : List A) → position_or_len p (map f xs) ≡ position_or_len (λ x. p (f x)) xs
length-position p f [] = refl
length-position p f (x ∷ xs) = ap (λ n. cond (not (p (f x))) (1 + n) 0) (length-position p f xs)

pub each-map : {A B : Type 0} (holds : B → Bool) (stop : ℕ → CaseStop) (f : A → B) (xs : List A) → each holds stop (map f xs) ≡ each (λ x. holds (f x)) stop xs
each-map holds stop f xs =
    let k = position_or_len (λ y. not (holds y)) (map f xs) in
    ap (λ n. option_map stop (cond (nat_lt k n) (Some k) None)) (length-map xs f)
    ∙ ap (λ j. option_map stop (cond (nat_lt j (length xs)) (Some j) None)) (length-position (λ y. not (holds y)) f xs)

none_earlier : {A : Type 0} (p : A → Bool) (xs : List A) → length xs ≤ position_or_len p xs → (k : ℕ) (d : A) → k < length xs → p (get_or xs k d) ≡ false
none_earlier p [] past k d l = absurd (omega arith)
none_earlier p (x ∷ xs) past zero d l = first_one (p x) refl
  where
    first_one : (b : Bool) → p x ≡ b → p x ≡ false
    first_one true is = absurd (let here : position_or_len p (x ∷ xs) ≡ 0 = ap (λ c. cond (not c) (1 + position_or_len p xs) 0) is in omega arith)
    first_one false is = is
none_earlier p (x ∷ xs) past (suc k) d l = later (p x) refl (λ more. none_earlier p xs more k d (omega arith))
  where
    later : (b : Bool) → p x ≡ b → (length xs ≤ position_or_len p xs → p (get_or xs k d) ≡ false) → p (get_or xs k d) ≡ false
    later true is rest = absurd (let here : position_or_len p (x ∷ xs) ≡ 0 = ap (λ c. cond (not c) (1 + position_or_len p xs) 0) is in omega arith)
    later false is rest = rest (let more : position_or_len p (x ∷ xs) ≡ 1 + position_or_len p xs = ap (λ c. cond (not c) (1 + position_or_len p xs) 0) is in omega arith)

none_passes : {A : Type 0} (p : A → Bool) (xs : List A) → All (λ x. p x ≡ false) xs → position_or_len p xs ≡ length xs
none_passes p [] h = refl
none_passes p (x ∷ xs) h =
    let later = none_passes p xs (λ k d l. h (suc k) d (omega arith)) in
    let more : 1 + position_or_len p xs ≡ length (x ∷ xs) = omega arith in
    ap (λ c. cond (not c) (1 + position_or_len p xs) 0) (h 0 x (omega arith)) ∙ more

pub each_holds : {A : Type 0} (holds : A → Bool) (stop : ℕ → CaseStop) (xs : List A) → each holds stop xs ≡ None → All (λ x. holds x ≡ true) xs
each_holds {A = A} holds stop xs e k d l = turned (holds (get_or xs k d)) (none_earlier p xs (at (nat_lt n (length xs)) refl) k d l)
  where
    p : A → Bool
    p x = not (holds x)

    n : ℕ
    n = position_or_len (λ x. not (holds x)) xs

    at : (b : Bool) → nat_lt n (length xs) ≡ b → length xs ≤ n
    at true is = absurd (let bad = sym (ap (λ c. option_map stop (cond c (Some n) None)) is) ∙ e in cc)
    at false is = ltb-false n (length xs) is

pub each_none : {A : Type 0} (holds : A → Bool) (stop : ℕ → CaseStop) (xs : List A) → All (λ x. holds x ≡ true) xs → each holds stop xs ≡ None
each_none holds stop xs h =
    let k = position_or_len (λ x. not (holds x)) xs in
    let last = none_passes (λ x. not (holds x)) xs (λ j d l. ap not (h j d l)) in
    ap (λ c. option_map stop (cond c (Some k) None)) (le-ltb k (length xs) (omega arith))

-- ---- each below a bound

module _ (n : ℕ) (holds : ℕ → Bool) (stop : ℕ → CaseStop) where
  pub below_holds : each_below n holds stop ≡ None → (i : ℕ) → i < n → holds i ≡ true
  below_holds e i l = at (least n (λ j. not (holds j))) refl
    where
      at : (o : Option ℕ) → least n (λ j. not (holds j)) ≡ o → holds i ≡ true
      at None is = turned (holds i) (least-none n (λ j. not (holds j)) is i l)
      at (Some k) is = absurd (let bad = sym (ap (option_map stop) is) ∙ e in cc)

  pub below_none : ((i : ℕ) → i < n → holds i ≡ true) → each_below n holds stop ≡ None
  below_none h = ap (option_map stop) (least-none_from n (λ j. not (holds j)) (λ j l. ap not (h j l)))

  pub below_first : (k : ℕ) → k < n → ((i : ℕ) → i < k → holds i ≡ true) → holds k ≡ false → each_below n holds stop ≡ Some (stop k)
  below_first k l before here = ap (option_map stop) (least-from n (λ j. not (holds j)) k (record { below = l; passes = ap not here; none_before = λ j b. ap not (before j b) }))

  -- the fact of the number that a loop stopped at
  pub below_stop : (k : ℕ) (why : CaseStop) → k < n → ((i : ℕ) → i < k → holds i ≡ true) → unless (holds k) (stop k) ≡ Some why → each_below n holds stop ≡ Some why
  below_stop k why l before is = at (holds k) refl is
    where
      at : (b : Bool) → holds k ≡ b → unless b (stop k) ≡ Some why → each_below n holds stop ≡ Some why
      at true h failed = absurd cc
      at false h failed = below_first k l before h ∙ failed

-- ---- the facts of the numbers below a bound

module _ (fact : ℕ → Fact) where
  stop_from : (a n k : ℕ) (stop : CaseStop) → a ≤ k → k < a + n → ((i : ℕ) → a ≤ i → i < k → fact i ≡ None) → fact k ≡ Some stop → first (map fact (range_with_len a n)) ≡ Some stop
  stop_from a zero k stop past l before here = absurd (omega arith)
  stop_from a (suc n) k stop past l before here =
      let rest = map fact (range_with_len (a + 1) n) in
      elim (cases_lt a k) [
        | inl less ↦ first_past (fact a) rest (before a (omega arith) less) ∙ stop_from (a + 1) n k stop (omega arith) (omega arith) (λ i from to. before i (omega arith) to) here
        | inr not_less ↦ (let same : a ≡ k = omega arith in first_here (fact a) rest stop (ap fact same ∙ here))
      ]

  none_from : (a n : ℕ) → ((i : ℕ) → a ≤ i → i < a + n → fact i ≡ None) → first (map fact (range_with_len a n)) ≡ None
  none_from a zero each = refl
  none_from a (suc n) each = first_past (fact a) (map fact (range_with_len (a + 1) n)) (each a (omega arith) (omega arith)) ∙ none_from (a + 1) n (λ i from to. each i (omega arith) (omega arith))

  hold_from : (a n : ℕ) → first (map fact (range_with_len a n)) ≡ None → (i : ℕ) → a ≤ i → i < a + n → fact i ≡ None
  hold_from a zero e i from to = absurd (omega arith)
  hold_from a (suc n) e i from to =
      let both = first_none (fact a) (map fact (range_with_len (a + 1) n)) e in
      elim (cases_lt a i) [
        | inl less ↦ hold_from (a + 1) n both.1 i (omega arith) (omega arith)
        | inr not_less ↦ (let same : i ≡ a = omega arith in ap fact same ∙ both.0)
      ]

  -- the first that fails is that of k
  pub facts_stop : (n k : ℕ) (stop : CaseStop) → k < n → ((i : ℕ) → i < k → fact i ≡ None) → fact k ≡ Some stop → first (facts_below n fact) ≡ Some stop
  facts_stop n k stop l before here = stop_from 0 n k stop (omega arith) (omega arith) (λ i from to. before i to) here

  pub facts_none : (n : ℕ) → ((i : ℕ) → i < n → fact i ≡ None) → first (facts_below n fact) ≡ None
  facts_none n each = none_from 0 n (λ i from to. each i (omega arith))

  pub facts_hold : (n : ℕ) → first (facts_below n fact) ≡ None → (i : ℕ) → i < n → fact i ≡ None
  facts_hold n e i l = hold_from 0 n e i (omega arith) (omega arith)

-- all of two lists hold where those of each do
pub append_none : (fs gs : List Fact) → first (fs ++ gs) ≡ None → (first fs ≡ None) × (first gs ≡ None)
append_none [] gs e = (refl, e)
append_none (None ∷ fs) gs e = append_none fs gs e
append_none (Some stop ∷ fs) gs e = absurd cc
