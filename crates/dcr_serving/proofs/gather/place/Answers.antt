use Rattle.std.proofs.Common.{Some}
use Rattle.std.specs.Prelude.{None}
use Rattle.dcr_serving.proofs.PlacingLemmas.{stands_in}
use Rattle.dcr_serving.proofs.gather.place.Goals as goal

pub unreachable-requires : goal.unreachable-requires
unreachable-requires g c =
    c.learn.ensures.apart (c.requires.in_place c.args.one.pass.session c.in-Some.other
    (stands_in c.args.slots.now c.args.one.end.session c.args.one.pass.session c.index-slots-one.result (Some c.in-Some.other) c.requires.within.session c.requires.within.within c.in-Some.is))

pub returns-clause-free : goal.returns-clause-free
returns-clause-free g c =
    stands_in c.args.slots.now c.args.one.end.session c.args.one.pass.session c.index-slots-one.result None c.requires.within.session c.requires.within.within c.in_default.is
