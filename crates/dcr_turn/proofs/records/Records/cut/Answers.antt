use Rattle.std.proofs.Common.{sym, ◌∙◌, arith}
use Rattle.dcr_turn.proofs.Keeping.{cuts}
use Rattle.dcr_turn.proofs.records.Records.cut.Goals as goal

pub split_seat-requires : goal.split_seat-requires
split_seat-requires g c = let order = c.args.order.now in (c.self.invariant.0 ∙ sym order.mark, omega arith, cuts _ _ _ _)
