use Rattle.std.proofs.Common.{◌≡◌, ℕ, ◌<◌, length, get_or}
use Rattle.dcr_wire.proofs.answer_wire.put_head.Given as goal

abbrev pub invariant-loop-place : goal.invariant-loop-place
invariant-loop-place l = record { len : length l.bytes ≡ 400; done : (j : ℕ) → j < l.place → get_or l.bytes j 0 ≡ get_or l.head j 0 }
