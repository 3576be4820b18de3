use Rattle.std.proofs.Common.{◌≡◌, ℕ, ◌<◌, get_or}
use Rattle.std.specs.Prelude.{◌↔◌}
use Rattle.dcr_greet.proofs.mac.are_same.Given as goal

abbrev pub invariant-bytes : goal.invariant-bytes
invariant-bytes l = (l.differing ≡ 0) ↔ ((k : ℕ) → k < l.i → get_or l.one k 0 ≡ get_or l.other k 0)
