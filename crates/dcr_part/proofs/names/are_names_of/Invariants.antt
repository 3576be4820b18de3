use Rattle.std.proofs.Common.{◌≡◌, ℕ, ◌<◌, None, is_some, get_or}
use Rattle.dcr_set.specs.EventSet.{has}
use Rattle.dcr_part.proofs.names.are_names_of.Given as goal

abbrev pub invariant-loop-number : goal.invariant-loop-number
invariant-loop-number l = (e : ℕ) → e < l.number → is_some (get_or l.names e None) ≡ has l.set e
