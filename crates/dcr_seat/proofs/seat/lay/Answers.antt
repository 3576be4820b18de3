use Rattle.std.proofs.Common.{◌+◌, ◌-◌, ◌∙◌, sym, arith}
use Rattle.dcr_seat.proofs.AskingLemmas.{laid_more}
use Rattle.dcr_seat.proofs.seat.lay.Goals as goal

pub loop-index-preserved : goal.loop-index-preserved
loop-index-preserved c =
    laid_more c.args.node.now c.args.site c.args.from (c.loop-index.index - c.args.from) c.loop-index.index (c.loop-index.index + 1 - c.args.from) c.in-Some.message
    c.loop-index.parcel c.write_message.result c.put.new.self (omega arith) (omega arith) (sym c.stream.ensures ∙ c.in-Some.is) c.write_message.ensures c.put.ensures c.loop-index.invariant.0 c.loop-index.invariant.1
