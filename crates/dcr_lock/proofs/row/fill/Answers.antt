use Rattle.std.proofs.Common.{◌≡◌, ◌+◌, ◌∙◌, ap, [], arith, vec_len, Option}
use Rattle.atomic_table.specs.Table.{Me}
use Rattle.dcr_lock.specs.declared.steps.SeatView.{SeatView}
use Rattle.dcr_lock.specs.Seats.{idle}
use Rattle.dcr_lock.proofs.Keeping.{fills}
use Rattle.dcr_lock.proofs.Standing.{front_stands, last_belongs}
use Rattle.dcr_lock.proofs.row.fill.Goals as goal

pub store-requires : goal.store-requires
store-requires g c =
    let long : vec_len c.loop-value.values ≡ c.len-place.result + 1 = omega (arith, c.in-Some.ensures.cases) in
    let me : c.loop-value.seat.me ≡ idle {T = g.row.T.Denot} (c.len-place.result + 1) = c.loop-value.invariant.empty ∙ ap (idle {T = g.row.T.Denot}) long in
    (c.loop-value.invariant.row, omega arith, rw me (fills g.T.Placed.belongs _ _ c.len-place.result [] [] (omega arith)))

pub put_back-requires-clause-belongs : goal.put_back-requires-clause-belongs
put_back-requires-clause-belongs g c =
    last_belongs g.T.Placed.belongs _ _ _ c.len-place.result c.loop-value.invariant.belong c.in-Some.ensures.items (c.len-place.ensures ∙ c.pop.new.self.ok.0)

pub loop-value-preserved : goal.loop-value-preserved
loop-value-preserved g c = record {
  row = c.put_back.ensures.same.0 ∙ c.store.ensures.0 ∙ c.loop-value.invariant.row;
  fewer = omega arith;
  empty = c.put_back.ensures.idle ∙ ap (λ (me : Me (Option g.row.T.Denot) SeatView). idle {T = g.row.T.Denot} me.0.empty) c.store.ensures.2 ∙ ap (idle {T = g.row.T.Denot}) c.len-place.ensures;
  belong = front_stands g.T.Placed.belongs _ _ _ c.loop-value.invariant.belong c.in-Some.ensures.items;
}
