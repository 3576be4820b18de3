-- Refusals in an order: the first that fails is the one that is given.
use Rattle.std.specs.Prelude.{◌≡◌, ◌↔◌, ℕ, ◌<◌, List, Some, Result, Ok, Err}
use Rattle.std.specs.List.{slice_get}

-- each of a list passes, by its index
abbrev pub EachAt : {A : Type 0} → (ℕ → A → Type 0) → List A → Type 0
EachAt P xs = (i : ℕ) (x : _) → slice_get xs i ≡ Some x → P i x

-- i is the least index of one that does not
pub record FailsFirst {A : Type 0} (P : ℕ → A → Type 0) (xs : List A) (i : ℕ) : Type 0 where
  pub element : A
  pub at : slice_get xs i ≡ Some element
  pub fails : ¬ P i element
  pub earlier : (j : ℕ) (x : A) → j < i → slice_get xs j ≡ Some x → P j x

-- k fails in the way i, and what comes before k holds
pub record IsFirstToFail {K I : Type 0} (rank : K → ℕ) (Holds : K → Type 0) (Fails : K → I → Type 0) (k : K) (i : I) : Type 0 where
  pub earlier : (other : K) → rank other < rank k → Holds other
  pub fails : Fails k i

-- the result gives the first refusal, and something where there is none
pub record RefusesFirst {K I W E : Type 0} (rank : K → ℕ) (stop : K → I → E) (Holds : K → Type 0) (Fails : K → I → Type 0) (r : Result W E) : Type 0 where
  -- a refusal comes exactly where it is the first
  pub refused : (k : K) (i : I) → (r ≡ Err (stop k i)) ↔ IsFirstToFail rank Holds Fails k i
  -- there is no other refusal
  pub no_other : (e : E) → r ≡ Err e → (k : K) × (i : I) × (e ≡ stop k i)
  -- something is given exactly where all hold
  pub given : ((w : W) × (r ≡ Ok w)) ↔ ((k : K) → Holds k)
