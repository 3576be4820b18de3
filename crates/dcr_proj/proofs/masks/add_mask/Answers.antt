use Rattle.std.proofs.Common.{eqb, ap, sym, ◌∙◌}
use Rattle.dcr_set.specs.EventSet.{no_event, those, union}
use Rattle.dcr_proj.proofs.PlaceLemmas.{nothing_added, one_added, empty_place, alone_place}
use Rattle.dcr_proj.proofs.masks.add_mask.Goals as goal

pub returns-then-place-eq0-clause-joined : goal.returns-then-place-eq0-clause-joined
returns-then-place-eq0-clause-joined c =
    nothing_added c.args.set.now ∙ ap (union c.args.set.now) (ap no_event c.requires.room ∙ sym (empty_place c.args.masks.now c.args.place.now.number c.requires.masks c.if-place-eq0.true))

pub returns-in-Some-clause-joined : goal.returns-in-Some-clause-joined
returns-in-Some-clause-joined c =
    c.insert.ensures.added ∙ one_added c.args.set.now c.in-Some.e
    ∙ ap (union c.args.set.now) (ap (λ n. those n (λ k. eqb k c.in-Some.e)) c.requires.room ∙ sym (alone_place c.args.masks.now c.args.place.now c.in-Some.e c.requires.place c.in-Some.is).only)
