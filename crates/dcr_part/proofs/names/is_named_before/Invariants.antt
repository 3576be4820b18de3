use Rattle.std.proofs.Common.{◌≡◌, ℕ, ◌<◌, None, false, get_or}
use Rattle.dcr_part.specs.Told.{is_text}
use Rattle.dcr_part.proofs.names.is_named_before.Given as goal

-- no event before k has the name
abbrev pub invariant-loop-k : goal.invariant-loop-k
invariant-loop-k l = (j : ℕ) → j < l.k → is_text (get_or l.names j None) l.name ≡ false
