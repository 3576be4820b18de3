use Rattle.std.proofs.Common.{sym, ap, ◌∙◌, arith, length, List}
use Rattle.dcr_turn.specs.declared.record.Record.{Record}
use Rattle.dcr_turn.specs.Records.{first_seen}
use Rattle.dcr_turn.specs.Steps.{Place}
use Rattle.dcr_turn.proofs.Keeping.{publishes}
use Rattle.dcr_turn.proofs.records.Records.publish.Goals as goal

pub compare_exchange-requires : goal.compare_exchange-requires
compare_exchange-requires g c =
    let order = c.args.order.now in
    let seen = c.self.view_is in (
      c.self.invariant.0 ∙ sym order.mark,
      omega arith,
      rw (order.alphabets, order.sessions)
          (publishes g.N.TurnName.turn.alphabets g.N.TurnName.turn.sessions _ _ _ c.self.inside.seat.me.0 c.self.inside.seat.me.1 g.B.EntryName.entry
          (rw seen c.requires.journal)
          (c.from-was.ensures ∙ c.requires.len ∙ ap (λ (v : List Record). length (first_seen v)) (sym seen))
          c.requires.session
          (rw seen c.requires.concerned)),
    )

pub invariant_of-self : goal.invariant_of-self
invariant_of-self g c =
    let e = c.compare_exchange.ensures in
    (e.0 ∙ c.self.invariant.0, ap (λ (place : Place). place.1) e.2 ∙ c.self.invariant.1)
