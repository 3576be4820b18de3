use Rattle.std.proofs.Common.{◌+◌, sym, subst}
use Rattle.dcr_serve.specs.declared.stand.DoorStand.{DoorStand}
use Rattle.dcr_serving.specs.Serving.{Stands}
use Rattle.dcr_serving.proofs.ServingLemmas.{stands_given}
use Rattle.dcr_serving.proofs.going.ask.Goals as goal

pub returns-in-Ok-Some-clause-some : goal.returns-in-Ok-Some-clause-some
returns-in-Ok-Some-clause-some g c = λ links faults given stood.
    let step = stands_given g.B.Door.tells links faults given c.args.door.now c.next.new.self c.in-Ok-Some.link
    (subst (λ (stand : DoorStand). Stands g.B.Door.tells links faults given stand c.args.door.now) c.in-Open.is stood)
    (rw c.in-Ok-Some.field-0-is at c.in-Ok-Some.ensures.given) c.in-Ok-Some.ensures.counts in
    (subst (λ (stand : DoorStand). Stands g.B.Door.tells links faults (given + 1) stand c.next.new.self) (sym c.in-Open.is) step.0, step.1)
