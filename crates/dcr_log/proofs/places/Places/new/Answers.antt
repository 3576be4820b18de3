use Rattle.std.proofs.Common.{arith}
use Rattle.dcr_log.proofs.GatheredLemmas.{noted_none}
use Rattle.dcr_log.proofs.places.Places.new.Goals as goal

pub returns : goal.returns
returns c = noted_none _ (let long = c.in_ok-slots.slots.ok.0 in let made = c.in_ok-slots.ensures.len in let some = c.requires in omega arith) c.new.ensures.empty
