use Rattle.std.proofs.Common.{◌≡◌, length, subst, sym}
use Rattle.std.specs.List.{All}
use Rattle.std.proofs.lemmas.List.Elements.{All-contains}
use Rattle.dcr_serving.specs.Placing.{MayBePlaced}
use Rattle.dcr_serving.proofs.GatherLemmas.{gathering_first, gathering_next, last_gathered}
use Rattle.dcr_serving.proofs.gather.gather.Goals as goal

pub loop-hand-init : goal.loop-hand-init
loop-hand-init g c = gathering_first c.args.share.now.parts c.args.share.now.taken c.args.slots.now c.args.hands.items c.requires.in_place

pub place_all-requires-clause-within : goal.place_all-requires-clause-within
place_all-requires-clause-within g c =
    let last = last_gathered c.args.share.now.parts c.args.share.now.taken c.loop-hand.share.parts c.loop-hand.share.taken c.args.slots.now c.loop-hand.slots c.args.hands.items c.loop-hand.hands.items c.pop.new.self.items
    c.in-Some.hand c.loop-hand.invariant c.in-Some.ensures.items in
    subst (λ n. All (MayBePlaced n) c.in-Some.hand.records.items) (sym c.loop-hand.invariant.as_many)
    (All-contains (λ hand. All (MayBePlaced (length c.args.slots.now)) hand.records.items) c.args.hands.items c.in-Some.hand c.requires.within last.there)

pub place_all-requires-clause-in_place : goal.place_all-requires-clause-in_place
place_all-requires-clause-in_place g c = c.loop-hand.invariant.in_place

pub loop-hand-preserved : goal.loop-hand-preserved
loop-hand-preserved g c =
    let last = last_gathered c.args.share.now.parts c.args.share.now.taken c.loop-hand.share.parts c.loop-hand.share.taken c.args.slots.now c.loop-hand.slots c.args.hands.items c.loop-hand.hands.items c.pop.new.self.items
    c.in-Some.hand c.loop-hand.invariant c.in-Some.ensures.items in
    gathering_next c.args.share.now.parts c.args.share.now.taken c.loop-hand.share.parts c.loop-hand.share.taken c.merge.new.self.parts c.merge.new.self.taken c.args.slots.now c.loop-hand.slots c.place_all.new.slots
    c.args.hands.items c.loop-hand.hands.items c.pop.new.self.items c.in-Some.hand c.loop-hand.invariant c.in-Some.ensures.items
    (All-contains (λ hand. hand.share.parts ≡ 1) c.args.hands.items c.in-Some.hand c.requires.parts last.there)
    (All-contains (λ hand. length hand.records.items ≡ hand.share.taken) c.args.hands.items c.in-Some.hand c.requires.counts last.there)
    c.merge.ensures.parts c.merge.ensures.taken c.place_all.ensures.count c.place_all.ensures.as_many c.place_all.ensures.in_place c.place_all.ensures.from_records
