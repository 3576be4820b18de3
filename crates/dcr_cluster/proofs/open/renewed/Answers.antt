use Rattle.std.proofs.Common.{[], Err, Option, Some, sym, ap, subst, ◌∙◌}
use Rattle.dcr_tape.specs.declared.tape.Store.{Store}
use Rattle.dcr_tape.specs.declared.tape.Store.TheVariants.{On}
use Rattle.dcr_cell.specs.Stored.{MayBegin, StoreStands}
use Rattle.dcr_cell.proofs.StoreLemmas.{begins_on}
use Rattle.dcr_cluster.specs.Opening.{IsCause, Leaves}
use Rattle.dcr_cluster.specs.declared.refused.OpenCause.{OpenCause}
use Rattle.dcr_cluster.proofs.StoreLemmas.{left_by, cause_stands}
use Rattle.dcr_cluster.proofs.open.renewed.Goals as goal

pub returns-in-Ok-clause-stands : goal.returns-in-Ok-clause-stands
returns-in-Ok-clause-stands g c =
    let view = g.D.Disk.view in let faults = g.D.Disk.faults in let old = g.N.ClusterName.cluster.old in
    let tape = c.in-On.tape in let done = c.in-Ok.ensures in
    let first = c.requires.store ∙ ap Some c.in-On.is in
    let may : MayBegin view old (On tape) = subst (MayBegin view old) c.in-On.is c.requires.begins in
    subst (λ (o : Option (Store g.row.D.Denot)). StoreStands view faults o old [] (On c.renew.new.self)) (sym first) (begins_on view faults old tape c.renew.new.self may (record {
      running = done.running;
      renewed = done.renewed;
      keeps = done.kept;
      images = done.any_moment;
      steady = done.steady;
      same = done.same.0;
      counts = done.ok_counts_none;
    }))

pub returns-in-Err-clause-leaves : goal.returns-in-Err-clause-leaves
returns-in-Err-clause-leaves g c =
    let view = g.D.Disk.view in let faults = g.D.Disk.faults in let old = g.N.ClusterName.cluster.old in
    let tape = c.in-On.tape in let done = c.in-Err.ensures in
    let may : MayBegin view old (On tape) = subst (MayBegin view old) c.in-On.is c.requires.begins in
    subst (λ (first : Store g.row.D.Denot). Leaves view faults old c.of.result first (On c.renew.new.self)) (sym c.in-On.is)
    (subst (λ (cause : OpenCause). Leaves view faults old cause (On tape) (On c.renew.new.self)) (sym c.of.ensures)
    (left_by view faults old tape c.renew.new.self c.in-Err.stop may done.any_moment (λ is. done.no_memory (ap Err is)) (λ is. let told = done.stopped (ap Err is) in (told.1, told.2))))

pub returns-in-Err-clause-cause : goal.returns-in-Err-clause-cause
returns-in-Err-clause-cause g c = λ possible.
    subst (IsCause g.N.ClusterName.cluster) (sym c.of.ensures) (cause_stands g.N.ClusterName.cluster c.in-Err.stop possible)
