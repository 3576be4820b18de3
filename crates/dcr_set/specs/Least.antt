-- The least number below a bound that passes a test.
use Rattle.std.specs.Prelude.{◌≡◌, ℕ, ◌<◌, Bool, true, false, filter, min, Option, Some, None, is_some, slice_get}
use Rattle.std.specs.List.{range_with_len}

-- the least number below n that passes: the first of those that do, in ascending order
unfoldable pub least : ℕ → (ℕ → Bool) → Option ℕ
least n p = slice_get (filter p (range_with_len 0 n)) 0

-- whether a number below n passes
abbrev pub some_below : ℕ → (ℕ → Bool) → Bool
some_below n p = is_some (least n p)

-- k is the least number below n that passes
pub record IsLeast (n : ℕ) (p : ℕ → Bool) (k : ℕ) : Type 0 where
  pub below : k < n
  pub passes : p k ≡ true
  pub none_before : (j : ℕ) → j < k → p j ≡ false

-- no number below n passes
abbrev pub NonePasses : ℕ → (ℕ → Bool) → Type 0
NonePasses n p = (j : ℕ) → j < n → p j ≡ false

-- the lesser of two numbers, where either may be missing
abbrev pub lesser : Option ℕ → Option ℕ → Option ℕ
lesser None b = b
lesser (Some a) None = Some a
lesser (Some a) (Some b) = Some (min a b)
