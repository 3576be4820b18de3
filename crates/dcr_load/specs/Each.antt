-- The list of what a function gives at each number below a bound, in order.
use Rattle.std.specs.Prelude.{ℕ, List, map, Option}
use Rattle.std.specs.List.{filter_map, range_with_len}

unfoldable pub each_below : {A : Type 0} → ℕ → (ℕ → A) → List A
each_below n f = map f (range_with_len 0 n)

-- the same, of a function that gives something at some numbers alone
unfoldable pub some_of_each_below : {A : Type 0} → ℕ → (ℕ → Option A) → List A
some_of_each_below n f = filter_map f (range_with_len 0 n)
