use Rattle.std.proofs.Common.{◌≡◌, ◌<◌, ◌%◌, ℕ, List, length, refl, sym, ap, subst, ◌∙◌, slice_index_or, slice_set}
use Rattle.dcr_work.specs.Dealing.{Hand}
use Rattle.std.proofs.lemmas.List.{length-set}
use Rattle.dcr_work.proofs.DealingLemmas.{dealing_next, own_place}
use Rattle.dcr_work.proofs.deal.deal.Goals as goal

pub loop-pass-preserved : goal.loop-pass-preserved
loop-pass-preserved g c =
    let w : ℕ = c.session.result % length c.args.hands.now in
    let hand : Hand = slice_index_or c.loop-pass.hands w c.index-hands-worker.result in
    dealing_next c.args.passes.now c.loop-pass.passes c.pop.new.self c.args.hands.now c.loop-pass.hands (slice_set c.loop-pass.hands w c.push_reserved.new.self) c.in-Some.pass w hand c.push_reserved.new.self
    c.loop-pass.invariant c.in-Some.ensures.items c.in-Some.ensures.cases c.pop.ensures.capacity (ap (λ (s : ℕ). s % length c.args.hands.now) c.session.ensures.session)
    (own_place c.session.result c.args.hands.now c.loop-pass.hands c.requires.some c.loop-pass.invariant.many)
    (ap (slice_index_or c.loop-pass.hands w) c.index-hands-worker.is) refl
    c.push_reserved.ensures.items c.push_reserved.ensures.len c.push_reserved.ensures.capacity (length-set c.loop-pass.hands w c.push_reserved.new.self)
