use Rattle.std.proofs.Common.{◌<◌, ℕ, sym, subst, ◌∙◌}
use Rattle.dcr_order.proofs.TendLemmas.{late_is, late_told, lt_from, not_lt}
use Rattle.dcr_order.proofs.ordering.Ordering.is_late.Goals as goal

pub returns-in-Here-clause-late : goal.returns-in-Here-clause-late
returns-in-Here-clause-late g c = λ result.
    late_is c.args.self.now.node c.args.self.now.places.items c.from.result c.args.i c.index.result.now c.in-Here.seat (c.from.ensures ∙ c.i.view_is) c.requires.place c.index.ensures c.in-Here.is
    (subst (λ (n : ℕ). c.in-Here.seat.told < n) c.stream_len.ensures (lt_from c.in-Here.seat.told c.stream_len.result result))

pub returns-in-Here-clause-told : goal.returns-in-Here-clause-told
returns-in-Here-clause-told g c = λ result late.
    not_lt c.in-Here.seat.told c.stream_len.result result
    (subst (λ (n : ℕ). c.in-Here.seat.told < n) (sym c.stream_len.ensures)
    (late_told c.args.self.now.node c.args.self.now.places.items c.from.result c.args.i c.index.result.now c.in-Here.seat (c.from.ensures ∙ c.i.view_is) c.requires.place c.index.ensures c.in-Here.is late))
