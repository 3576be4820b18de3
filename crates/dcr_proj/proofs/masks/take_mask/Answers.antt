use Rattle.std.proofs.Common.{eqb, ap, sym, ◌∙◌}
use Rattle.dcr_set.specs.EventSet.{no_event, those, difference}
use Rattle.dcr_proj.proofs.PlaceLemmas.{nothing_taken, one_taken, empty_place, alone_place}
use Rattle.dcr_proj.proofs.masks.take_mask.Goals as goal

pub returns-then-place-eq0-clause-left : goal.returns-then-place-eq0-clause-left
returns-then-place-eq0-clause-left c =
    nothing_taken c.args.set.now ∙ ap (difference c.args.set.now) (ap no_event c.requires.room ∙ sym (empty_place c.args.masks.now c.args.place.now.number c.requires.masks c.if-place-eq0.true))

pub returns-in-Some-clause-left : goal.returns-in-Some-clause-left
returns-in-Some-clause-left c =
    c.remove.ensures.removed ∙ one_taken c.args.set.now c.in-Some.e
    ∙ ap (difference c.args.set.now) (ap (λ n. those n (λ k. eqb k c.in-Some.e)) c.requires.room ∙ sym (alone_place c.args.masks.now c.args.place.now c.in-Some.e c.requires.place c.in-Some.is).only)
