use Rattle.std.proofs.Common.{◌&&◌, not, ap, ◌∙◌, arith}
use Rattle.dcr_set.specs.Bits.{bit}
use Rattle.dcr_set.proofs.LeastLemmas.{least-room}
use Rattle.dcr_set.proofs.lowest.lowest_without.Goals as goal

pub returns-then-room-le256 : goal.returns-then-room-le256
returns-then-room-le256 c = c.lowest_without_below.ensures ∙ least-room c.args.room 256 _ (omega arith) (λ k past. ap (λ t. t && (bit c.args.inside.now k && not (bit c.args.outside.now k))) (c.requires.clear k past))

pub returns-else-room-le256 : goal.returns-else-room-le256
returns-else-room-le256 c = c.lowest_without_below-else-room-le256.ensures ∙ least-room c.args.room 1024 _ (omega arith) (λ k past. ap (λ t. t && (bit c.args.inside.now k && not (bit c.args.outside.now k))) (c.requires.clear k past))
