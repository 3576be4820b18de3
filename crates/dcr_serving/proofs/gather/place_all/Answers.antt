use Rattle.std.proofs.Common.{length, subst, sym}
use Rattle.std.proofs.lemmas.List.Elements.{All-contains}
use Rattle.dcr_serving.specs.Placing.{MayBePlaced}
use Rattle.dcr_serving.proofs.GatherLemmas.{last_placed, placing_first, placing_next}
use Rattle.dcr_serving.proofs.gather.place_all.Goals as goal

pub loop-record-init : goal.loop-record-init
loop-record-init g c = placing_first (λ one. one.pass.session) c.args.slots.now c.args.records.items c.requires.in_place

pub place-requires-clause-within : goal.place-requires-clause-within
place-requires-clause-within g c =
    let last = last_placed (λ one. one.pass.session) c.args.slots.now c.loop-record.slots c.args.records.items c.loop-record.records.items c.pop.new.self.items c.in-Some.record c.loop-record.invariant c.in-Some.ensures.items in
    subst (λ n. MayBePlaced n c.in-Some.record) (sym c.loop-record.invariant.as_many) (All-contains (MayBePlaced (length c.args.slots.now)) c.args.records.items c.in-Some.record c.requires.within last.there)

pub place-requires-clause-in_place : goal.place-requires-clause-in_place
place-requires-clause-in_place g c = c.loop-record.invariant.in_place

pub loop-record-preserved : goal.loop-record-preserved
loop-record-preserved g c =
    placing_next (λ one. one.pass.session) c.args.slots.now c.loop-record.slots c.place.new.slots c.args.records.items c.loop-record.records.items c.pop.new.self.items c.in-Some.record
    c.loop-record.invariant c.in-Some.ensures.items c.place.ensures.free c.place.ensures.put
