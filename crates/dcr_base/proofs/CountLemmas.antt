-- What a call that may have failed makes of a count.
use Rattle.std.proofs.Common.{◌≡◌, ℕ, ◌≤◌, Result, Ok, Err, subst, arith}
use Rattle.dcr_base.specs.Count.{CountsFault, Fails}

-- it doesn't fall
pub never_falls : {T E : Type 0} (result : Result T E) (old new : ℕ) → CountsFault result old new → old ≤ new
never_falls (Ok x) old new same = omega (arith, same)
never_falls (Err e) old new fails = fails.0

-- a count that stood still before it failed
pub fails_since : (first middle last : ℕ) → middle ≡ first → Fails middle last → Fails first last
fails_since first middle last same fails = subst (λ (n : ℕ). Fails n last) same fails
