-- Items under numbers, of which few come twice.
use Rattle.std.specs.Prelude.{◌≡◌, ℕ, ◌<◌, ◌≤◌, List, ◌++◌, length}
use Rattle.std.specs.List.{All}

-- at each place stands the number of one of so many items
pub record AreSlots (count : ℕ) (slots : List ℕ) : Type 0 where
  pub as_many : length slots ≡ 4096
  pub within : All (λ number. number < count) slots

-- behind the items stands no more than this one
pub record Grows {A : Type 0} (old new : List A) (item : A) : Type 0 where
  pub rest : List A
  pub grown : new ≡ old ++ rest
  pub one : length rest ≤ 1
  pub same : All (λ it. it ≡ item) rest
