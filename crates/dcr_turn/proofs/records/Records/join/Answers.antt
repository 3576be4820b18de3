use Rattle.std.proofs.Common.{sym, ◌∙◌, arith}
use Rattle.dcr_turn.proofs.Keeping.{joins}
use Rattle.dcr_turn.proofs.records.Records.join.Goals as goal

pub join_seat-requires : goal.join_seat-requires
join_seat-requires g c =
    let order = c.args.order.now in (
      c.self.invariant.0 ∙ sym order.mark,
      c.others.invariant.0 ∙ sym order.mark,
      c.others.invariant.1,
      omega arith,
      joins _ _ _ _ _ _,
    )
