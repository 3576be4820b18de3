use Rattle.dcr_seat.proofs.HonestLemmas.{part_is_honest}
use Rattle.dcr_seat.proofs.laws.parts_are_honest.Goals as goal

pub returns : goal.returns
returns c = λ G C M i asked answers taken unasked given unheard could spelled answered in_step even.
    part_is_honest G C M i asked answers taken unasked given unheard could spelled answered in_step even
