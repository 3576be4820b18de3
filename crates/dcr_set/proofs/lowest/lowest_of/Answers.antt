use Rattle.std.proofs.Common.{◌∙◌, arith}
use Rattle.dcr_set.proofs.LeastLemmas.{least-room}
use Rattle.dcr_set.proofs.lowest.lowest_of.Goals as goal

pub returns-then-room-le256 : goal.returns-then-room-le256
returns-then-room-le256 c = c.lowest_below.ensures ∙ least-room c.args.room 256 _ (omega arith) c.requires.clear

pub returns-else-room-le256 : goal.returns-else-room-le256
returns-else-room-le256 c = c.lowest_below-else-room-le256.ensures ∙ least-room c.args.room 1024 _ (omega arith) c.requires.clear
