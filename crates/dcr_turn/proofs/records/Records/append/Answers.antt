use Rattle.std.proofs.Common.{sym, ◌∙◌, arith}
use Rattle.dcr_turn.proofs.Keeping.{appends}
use Rattle.dcr_turn.proofs.records.Records.append.Goals as goal

pub join_seat-requires : goal.join_seat-requires
join_seat-requires g c =
    let order = c.args.order.now in (
      c.self.invariant.0 ∙ sym order.mark,
      c.others.invariant.0 ∙ sym order.mark,
      c.others.invariant.1,
      omega arith,
      appends _ _ _ _ _ _,
    )
