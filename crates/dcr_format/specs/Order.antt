-- Facts in their order, in plain words: which is the first that fails, and where a fact of many fails.
use Rattle.std.specs.Prelude.{◌≡◌, ◌↔◌, ℕ, ◌<◌, Bool, true, false, not, List, Some, None}
use Rattle.std.specs.List.{All, slice_get}
use Rattle.serde_json.specs.Data.{Data}
use Rattle.dcr_set.specs.Least.{IsLeast}
use Rattle.dcr_format.specs.Facts.{Fact, unless, each, each_below, first}
use Rattle.dcr_format.specs.declared.stop.CaseStop.{CaseStop}

-- one of the facts fails so, and all before it hold
pub record IsFirst (facts : List Fact) (stop : CaseStop) : Type 0 where
  pub place : ℕ
  pub fails : slice_get facts place ≡ Some (Some stop)
  pub earlier : (i : ℕ) (fact : Fact) → i < place → slice_get facts i ≡ Some fact → fact ≡ None

-- the value at i is the first of which it is not so
pub record FailsFirst (holds : Data → Bool) (ds : List Data) (i : ℕ) : Type 0 where
  pub element : Data
  pub at : slice_get ds i ≡ Some element
  pub fails : holds element ≡ false
  pub earlier : (j : ℕ) (d : Data) → j < i → slice_get ds j ≡ Some d → holds d ≡ true

-- what the words for facts say, both ways
pub record FactsAreTold : Type 0 where
  -- of facts in order: the refusal is that of the first that fails, and none comes exactly where all hold
  pub refused : (facts : List Fact) (stop : CaseStop) → (first facts ≡ Some stop) ↔ IsFirst facts stop
  pub passed : (facts : List Fact) → (first facts ≡ None) ↔ All (λ fact. fact ≡ None) facts
  -- of one fact
  pub unless_refused : (holds : Bool) (stop why : CaseStop) → (unless holds stop ≡ Some why) ↔ ((holds ≡ false) × (why ≡ stop))
  pub unless_passed : (holds : Bool) (stop : CaseStop) → (unless holds stop ≡ None) ↔ (holds ≡ true)
  -- of the values of an array
  pub each_refused : (holds : Data → Bool) (stop : ℕ → CaseStop) (ds : List Data) (why : CaseStop) → (each holds stop ds ≡ Some why) ↔ ((i : ℕ) × FailsFirst holds ds i × (why ≡ stop i))
  pub each_passed : (holds : Data → Bool) (stop : ℕ → CaseStop) (ds : List Data) → (each holds stop ds ≡ None) ↔ All (λ d. holds d ≡ true) ds
  -- of the numbers below a bound
  pub below_refused : (n : ℕ) (holds : ℕ → Bool) (stop : ℕ → CaseStop) (why : CaseStop) → (each_below n holds stop ≡ Some why) ↔ ((i : ℕ) × IsLeast n (λ j. not (holds j)) i × (why ≡ stop i))
  pub below_passed : (n : ℕ) (holds : ℕ → Bool) (stop : ℕ → CaseStop) → (each_below n holds stop ≡ None) ↔ ((i : ℕ) → i < n → holds i ≡ true)
