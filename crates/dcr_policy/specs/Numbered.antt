-- Roles by their numbers in a list of their names.
use Rattle.std.specs.Prelude.{ℕ, ◌<◌, Bool, List, [], map, ◌==◌, slice_index_or}
use Rattle.std.specs.List.{All, list_any}

-- the names of these numbers
abbrev pub named : List (List ℕ) → List ℕ → List (List ℕ)
named names numbers = map (λ number. slice_index_or names number []) numbers

-- the same of each of several lists
abbrev pub all_named : List (List ℕ) → List (List ℕ) → List (List (List ℕ))
all_named names lists = map (named names) lists

-- each number of each list is below a bound
abbrev pub AreBelow : ℕ → List (List ℕ) → Type 0
AreBelow bound lists = All (λ numbers. All (λ number. number < bound) numbers) lists

-- whether a number is in a list
abbrev pub is_in : List ℕ → ℕ → Bool
is_in numbers number = list_any (λ other. number == other) numbers

-- whether some number of the one list is in the other
abbrev pub shares : List ℕ → List ℕ → Bool
shares asked had = list_any (is_in had) asked
