-- The executions so far lie in the parcel.
use Rattle.std.proofs.Common.{◌≡◌, ◌-◌, ◌*◌, length}
use Rattle.dcr_talk.specs.Frames.{SpellAll}
use Rattle.dcr_seat.specs.InStep.{told_of}
use Rattle.dcr_seat.proofs.seat.lay.Given as goal

abbrev pub invariant-loop-index : goal.invariant-loop-index
invariant-loop-index l = (length l.parcel ≡ 14 * (l.index - l.from)) × SpellAll l.parcel (told_of l.node l.site l.from (l.index - l.from))
