-- The first of a list that does not pass: what it is for there to be one, and none.
use Rattle.std.proofs.Common.{◌≡◌, ℕ, ◌+◌, ◌<◌, Bool, true, false, not, List, [], ◌∷◌, ◌++◌, length, get_or, map, take, Option, Some, None, option_map, inl, inr, refl, sym, ap, subst, ◌∙◌, arith}
use Rattle.std.specs.List.{slice_get}
use Rattle.std.specs.Option.{option_map_or}
use Rattle.std.proofs.lemmas.Bool.{cases_lt, false≢true, not-false, not_from_true}
use Rattle.std.proofs.lemmas.List.{map_push, take_more}
use Rattle.std.proofs.lemmas.Option.{slice_get-get_or, slice_get-map, slice_get_within}
use Rattle.dcr_set.proofs.LeastLemmas.{least-from, least-none, least-none_from, least-some}
use Rattle.dcr_roles.specs.Order.{EachAt, FailsFirst}
use Rattle.dcr_roles.proofs.OrderLemmas.{Outcome, passed, failed}
use Rattle.dcr_roles.specs.Parts.{failing}
use Rattle.dcr_roles.specs.Written.{first_wrong}
use Rattle.dcr_roles.specs.declared.stop.PolicyPart.{PolicyPart}
use Rattle.dcr_roles.specs.declared.stop.PolicyStop.TheVariants.{Policy}

-- the one at i is there and does not pass
abbrev pub is_wrong : {A : Type 0} → (ℕ → A → Bool) → List A → ℕ → Bool
is_wrong passes xs i = option_map_or (λ x. not (passes i x)) (slice_get xs i) false

abbrev pub Passes : {A : Type 0} → (ℕ → A → Bool) → ℕ → A → Type 0
Passes passes i x = passes i x ≡ true

module _ {A : Type 0} (passes : ℕ → A → Bool) (xs : List A) where
  pub wrong_at : (i : ℕ) (x : A) → slice_get xs i ≡ Some x → is_wrong passes xs i ≡ not (passes i x)
  wrong_at i x is = ap (λ o. option_map_or (λ y. not (passes i y)) o false) is

  right_at : (i : ℕ) (x : A) → slice_get xs i ≡ Some x → is_wrong passes xs i ≡ false → passes i x ≡ true
  right_at i x is e = not-false (passes i x) (sym (wrong_at i x is) ∙ e)

  none_wrong : first_wrong passes xs ≡ None → EachAt (Passes passes) xs
  none_wrong e i x is = right_at i x is (least-none (length xs) (is_wrong passes xs) e i (slice_get_within xs i x is))

  one_wrong : (i : ℕ) → first_wrong passes xs ≡ Some i → FailsFirst (Passes passes) xs i
  one_wrong i e = (let least = least-some (length xs) (is_wrong passes xs) i e in found (slice_get xs i) refl least.passes least.none_before)
    where
      found : (o : Option A) → slice_get xs i ≡ o → option_map_or (λ x. not (passes i x)) o false ≡ true → ((j : ℕ) → j < i → is_wrong passes xs j ≡ false) → FailsFirst (Passes passes) xs i
      found None is wrong before = absurd (false≢true wrong)
      found (Some x) is wrong before = record {
        element = x;
        at = is;
        fails = λ right. false≢true (sym (not_from_true (passes i x) right) ∙ wrong);
        earlier = λ j y l here. right_at j y here (before j l);
      }

  -- a part that comes several times: each passes, or it is refused by the first that does not
  pub failing_outcome : (part : PolicyPart) → Outcome (Policy part) (failing part (first_wrong passes xs)) (EachAt (Passes passes) xs) (FailsFirst (Passes passes) xs)
  failing_outcome part = at (first_wrong passes xs) refl
    where
      at : (o : Option ℕ) → first_wrong passes xs ≡ o → Outcome (Policy part) (failing part o) (EachAt (Passes passes) xs) (FailsFirst (Passes passes) xs)
      at None e = passed tt refl (none_wrong e)
      at (Some i) e = failed i refl (one_wrong i e)

  -- what a walk finds: the first wrong one, or none
  pub wrong_found : (i : ℕ) (x : A) → slice_get xs i ≡ Some x → passes i x ≡ false → ((j : ℕ) → j < i → is_wrong passes xs j ≡ false) → first_wrong passes xs ≡ Some i
  wrong_found i x is fails before = least-from (length xs) (is_wrong passes xs) i (record {
    below = slice_get_within xs i x is;
    passes = wrong_at i x is ∙ ap not fails;
    none_before = before;
  })

  pub none_found : ((j : ℕ) → j < length xs → is_wrong passes xs j ≡ false) → first_wrong passes xs ≡ None
  none_found all = least-none_from (length xs) (is_wrong passes xs) all

  pub right_found : (i : ℕ) (x : A) → slice_get xs i ≡ Some x → passes i x ≡ true → is_wrong passes xs i ≡ false
  right_found i x is fits = wrong_at i x is ∙ ap not fits

-- ---- one after another

-- what holds before n + 1 holds before n and at n
pub and_next : (Q : ℕ → Type 0) (n : ℕ) → ((i : ℕ) → i < n → Q i) → Q n → (i : ℕ) → i < n + 1 → Q i
and_next Q n before here i within = elim (cases_lt i n) [
  | inl less ↦ before i less
  | inr past ↦ let same : n ≡ i = omega arith in subst Q same here
]

-- what stands at a place, seen
pub seen_at : {A B : Type 0} (f : A → B) (xs : List A) (i : ℕ) (x : A) → i < length xs → x ≡ get_or xs i x → slice_get (map f xs) i ≡ Some (f x)
seen_at f xs i x within read = slice_get-map f xs i ∙ ap (option_map f) (slice_get-get_or xs i x within ∙ ap Some (sym read))

-- one more
pub seen_more : {A B : Type 0} (f : A → B) (xs : List A) (i : ℕ) (x : A) → i < length xs → x ≡ get_or xs i x → map f (take (i + 1) xs) ≡ map f (take i xs) ++ f x ∷ []
seen_more f xs i x within read = ap (map f) (take_more xs i x within ∙ ap (λ y. take i xs ++ y ∷ []) (sym read)) ∙ map_push f (take i xs) x
