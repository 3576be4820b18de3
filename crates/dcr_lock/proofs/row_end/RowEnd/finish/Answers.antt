use Rattle.std.proofs.Common.{◌≡◌, ℕ, ◌<◌, ◌∙◌, sym, ap, subst, length, List, Bool, false, get_or, arith, Option}
use Rattle.std.specs.Mem.Slots.{slots_items, slots_filled, slots_len, slots_counts}
use lib.ListN.{get_elem?}
use Rattle.atomic_table.specs.Table.{Final, Seen, Me}
use Rattle.dcr_lock.specs.declared.steps.SeatView.{SeatView}
use Rattle.dcr_lock.specs.Rule.{AreKept}
use Rattle.dcr_lock.specs.RowEndValue.{Emptying}
use Rattle.dcr_lock.proofs.Ending.{nothing_there, left_more, gone_more}
use Rattle.dcr_lock.proofs.row_end.RowEnd.finish.Goals as goal

pub unreachable-requires : goal.unreachable-requires
unreachable-requires g c =
    let ended = c.close_with-closed.result in
    let inside = c.self.inside in
    let places = ap (λ (row : Emptying). row.places) c.self.view_is in
    let emptied = ap (λ (row : Emptying). row.emptied) c.self.view_is in
    let long : slots_len ended.slots ≡ length (slots_items ended.slots) = (slots_counts ended.slots).0 in
    let near : c.loop-place.place < slots_len ended.slots =
    subst (λ (n : ℕ). c.loop-place.place < n) (c.slot_count.ensures ∙ c.loop-place.invariant.count) c.loop-place-test.true in
    let count : slots_len ended.slots ≡ inside.table.shared.table_id.slots = c.close_with-closed.ensures.counts.1 in
    let whole : inside.emptied ≡ inside.table.shared.table_id.slots = emptied ∙ c.requires ∙ sym places in
    let all : c.loop-place.place < inside.emptied = subst (λ (n : ℕ). c.loop-place.place < n) (count ∙ sym whole) near in
    let inside_too : c.loop-place.place < length (slots_items ended.slots) = subst (λ (n : ℕ). c.loop-place.place < n) long near in
    let last = subst (λ (me : Me (Option g.row.T.Denot) SeatView). Final (Seen (AreKept g.T.Placed.belongs) inside.seat.id me.0) (slots_items ended.words) (slots_items ended.slots))
    c.self.invariant.empty c.close_with-closed.ensures.values.2 in
    c.in_default.not-None (nothing_there g.T.Placed.belongs _ _ inside.seat.id inside.emptied c.loop-place.place c.take-stood.result last all inside_too
    (ap (λ (xs : List (Option g.row.T.Denot)). get_elem? xs c.loop-place.place) (sym c.loop-place.invariant.items) ∙ c.take-stood.ensures.value))

pub loop-place-preserved : goal.loop-place-preserved
loop-place-preserved g c =
    let others = c.take-stood.ensures.others in
    let was = c.loop-place.closed.slots in
    let counts = slots_counts was in
    record {
      items = others.0 ∙ c.loop-place.invariant.items;
      count = others.2 ∙ c.loop-place.invariant.count;
      left = λ k behind inside. ap (λ (filled : List Bool). get_or filled k false) others.1
          ∙ left_more (slots_filled was) c.loop-place.place k behind (c.loop-place.invariant.left k (omega arith) (omega arith));
      gone = λ k before. ap (λ (filled : List Bool). get_or filled k false) others.1
          ∙ gone_more (slots_filled was) c.loop-place.place c.loop-place.invariant.gone (omega arith) k before;
    }
