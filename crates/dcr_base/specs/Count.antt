-- Counts of faults, which a real adapter keeps in a `u64` that stops at its largest value.
use Rattle.std.specs.Prelude.{◌≡◌, ◌⊎◌, ℕ, ◌-◌, ◌^◌, ◌<◌, ◌≤◌, Result, MatchResult}

-- the count rose, or stands where it can rise no more
abbrev pub Rose : ℕ → ℕ → Type 0
Rose before after = (before < after) ⊎ (after ≡ 2 ^ 64 - 1)

-- a call that fails counts a fault
abbrev pub Fails : ℕ → ℕ → Type 0
Fails old new = (old ≤ new) × Rose old new

-- a call counts a fault exactly where it fails
abbrev pub CountsFault : {T E : Type 0} → Result T E → ℕ → ℕ → Type 0
CountsFault result old new = MatchResult result (λ _. new ≡ old) (λ _. Fails old new)
