use Rattle.std.proofs.Common.{sym, ◌∙◌, arith}
use Rattle.dcr_turn.proofs.Keeping.{compares}
use Rattle.dcr_turn.proofs.records.Records.compare.Goals as goal

pub load-requires : goal.load-requires
load-requires g c =
    let order = c.args.order.now in (
      c.self.invariant.0 ∙ sym order.mark,
      omega arith,
      rw (order.alphabets, order.sessions) (compares g.N.TurnName.turn.alphabets g.N.TurnName.turn.sessions _ _ c.self.inside.seat.me.0 c.self.inside.seat.me.1),
    )
