use Rattle.std.proofs.Common.{◌≡◌, Some, length, ap, sym, ◌∙◌}
use Rattle.std.specs.Prelude.{slice_get}
use Rattle.std.proofs.lemmas.Option.{get_or_from_slice_get}
use Rattle.dcr_serving.proofs.PlacingLemmas.{behind_it, few_filled, fits_more, full_at, get_behind, grown_to, no_less}
use Rattle.dcr_serving.proofs.gather.take_out.Goals as goal

pub unreachable-requires : goal.unreachable-requires
unreachable-requires g c =
    let there = full_at c.args.slots.now c.args.count c.loop-i.i c.requires.full c.requires.within c.loop-i-test.true in
    c.in_default.not-Some there.0
    (c.take.ensures.value ∙ get_or_from_slice_get c.loop-i.slots c.loop-i.i (Some there.0) c.index-slots-i.result (c.loop-i.invariant.slots c.loop-i.i (no_less c.loop-i.i) ∙ there.1))

pub push_reserved-requires : goal.push_reserved-requires
push_reserved-requires g c =
    let few = few_filled (λ one. one.pass) c.args.slots.now c.loop-i.i c.args.passes.now.items c.loop-i.passes.items c.loop-i.invariant.passes in
    fits_more _ _ (length c.args.passes.now.items) c.loop-i.i c.args.count _ _ c.loop-i.passes.ok.0 few c.loop-i-test.true c.requires.room_for_passes c.loop-i.invariant.passes_room

pub push_reserved-requires-in-loop-i : goal.push_reserved-requires-in-loop-i
push_reserved-requires-in-loop-i g c =
    let few = few_filled (λ one. one.end) c.args.slots.now c.loop-i.i c.args.ends.now.items c.loop-i.ends.items c.loop-i.invariant.ends in
    fits_more _ _ (length c.args.ends.now.items) c.loop-i.i c.args.count _ _ c.loop-i.ends.ok.0 few c.loop-i-test.true c.requires.room_for_ends c.loop-i.invariant.ends_room

pub loop-i-preserved : goal.loop-i-preserved
loop-i-preserved g c =
    let there = full_at c.args.slots.now c.args.count c.loop-i.i c.requires.full c.requires.within c.loop-i-test.true in
    let found : slice_get c.loop-i.slots c.loop-i.i ≡ Some (Some there.0) = c.loop-i.invariant.slots c.loop-i.i (no_less c.loop-i.i) ∙ there.1 in
    let value : Some there.0 ≡ Some c.in-Some.field-0 =
    sym (get_or_from_slice_get c.loop-i.slots c.loop-i.i (Some there.0) c.index-slots-i.result found) ∙ sym c.take.ensures.value ∙ c.in-Some.is in
    let is : slice_get c.args.slots.now c.loop-i.i ≡ Some (Some c.in-Some.field-0) = there.1 ∙ ap Some value in
    record {
      slots = λ j behind. let past = behind_it c.loop-i.i j behind in get_behind c.loop-i.slots c.loop-i.i j c.take.new.self past.0 ∙ c.loop-i.invariant.slots j past.1;
      passes = grown_to (λ one. one.pass) c.args.slots.now c.loop-i.i c.in-Some.field-0 c.args.passes.now.items c.loop-i.passes.items c.push_reserved.new.self.items is c.loop-i.invariant.passes c.push_reserved.ensures.items;
      ends = grown_to (λ one. one.end) c.args.slots.now c.loop-i.i c.in-Some.field-0 c.args.ends.now.items c.loop-i.ends.items c.push_reserved-in-loop-i.new.self.items is c.loop-i.invariant.ends c.push_reserved-in-loop-i.ensures.items;
      passes_room = c.push_reserved.ensures.capacity ∙ c.loop-i.invariant.passes_room;
      ends_room = c.push_reserved-in-loop-i.ensures.capacity ∙ c.loop-i.invariant.ends_room;
    }
