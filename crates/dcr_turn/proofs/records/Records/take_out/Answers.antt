use Rattle.std.proofs.Common.{sym, ◌∙◌, arith}
use Rattle.dcr_turn.proofs.Keeping.{takes_out}
use Rattle.dcr_turn.proofs.records.Records.take_out.Goals as goal

pub split_seat-requires : goal.split_seat-requires
split_seat-requires g c = let order = c.args.order.now in (c.self.invariant.0 ∙ sym order.mark, omega arith, takes_out _ _ _ g.B.Which.holder _)
