use Rattle.std.proofs.Common.{◌≡◌, ◌<◌, ◌%◌, ℕ, List, [], length, refl, sym, ap, subst, ◌∙◌, slice_index_or, slice_set}
use Rattle.dcr_turn.specs.PassValue.{PassValue}
use Rattle.std.proofs.lemmas.List.{length-set}
use Rattle.dcr_work.proofs.DealingLemmas.{hand_there, gathering_next, own_place}
use Rattle.dcr_work.proofs.deal.gather.Goals as goal

pub unreachable-requires : goal.unreachable-requires
unreachable-requires g c =
    let none : PassValue = record { session = 0; front = []; made = 0 } in
    c.in_default.not-Some _
    (c.pop-popped.ensures.value none
    (hand_there c.args.count c.loop-k.k c.args.hands.now c.loop-k.passes c.loop-k.hands c.loop-k.invariant c.loop-k-test.true (c.loop-k.k % length c.args.hands.now) refl
    (own_place c.loop-k.k c.args.hands.now c.loop-k.hands c.requires.some c.loop-k.invariant.many) c.index-hands-k.result))

pub loop-k-preserved : goal.loop-k-preserved
loop-k-preserved g c =
    gathering_next c.args.count c.loop-k.k c.args.hands.now c.loop-k.passes c.loop-k.hands c.loop-k.invariant c.loop-k-test.true (c.loop-k.k % length c.args.hands.now) refl
    (own_place c.loop-k.k c.args.hands.now c.loop-k.hands c.requires.some c.loop-k.invariant.many) c.index-hands-k.result
    c.pop-popped.new.self c.push_reserved.new.self (slice_set c.loop-k.hands (c.loop-k.k % length c.args.hands.now) c.pop-popped.new.self) c.in-Some.pass
    c.in-Some.ensures.items refl (length-set c.loop-k.hands (c.loop-k.k % length c.args.hands.now) c.pop-popped.new.self) c.push_reserved.ensures.items c.push_reserved.ensures.len c.push_reserved.ensures.capacity
