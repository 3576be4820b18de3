use Rattle.std.proofs.Common.{sym, ◌∙◌, arith}
use Rattle.dcr_turn.proofs.Keeping.{parts}
use Rattle.dcr_turn.proofs.records.Records.part.Goals as goal

pub split_seat-requires : goal.split_seat-requires
split_seat-requires g c = let order = c.args.order.now in (c.self.invariant.0 ∙ sym order.mark, omega arith, parts _ _ _ g.B.Place.place _)
