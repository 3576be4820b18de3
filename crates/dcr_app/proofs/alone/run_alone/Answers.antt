use Rattle.std.proofs.Common.{[], List, subst}
use Rattle.dcr_journal.specs.declared.call.Call.{Call}
use Rattle.dcr_engine.specs.Ran.{HasRun, cluster_of}
use Rattle.dcr_tape.specs.declared.tape.Store.TheVariants.{Off}
use Rattle.dcr_app.proofs.AdaptLemmas.{ran_alone}
use Rattle.dcr_app.proofs.alone.run_alone.Goals as goal

pub returns-in-Ok-clause-ran : goal.returns-in-Ok-clause-ran
returns-in-Ok-clause-ran g c =
    let case = c.args.case.now in let closed = c.in-Ok.field-0.closed in let last = c.in-Ok.field-0.store in let M = c.args.opening.now in
    let OfSessions : List (List Call) → Type 0 = λ s. HasRun g.D.Disk.view g.D.Disk.faults (cluster_of case.graph case.cover M []) (Off c.args.disk) 1 s closed last in
    ran_alone g.D.Disk.view g.D.Disk.faults c.ordered_is_told.ensures case.graph case.cover M case.sessions c.args.disk closed last (subst OfSessions c.all.ensures c.in-Ok.ensures.ran)
