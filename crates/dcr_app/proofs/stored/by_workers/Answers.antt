use Rattle.std.proofs.Common.{List, length, subst}
use Rattle.dcr_journal.specs.declared.call.Call.{Call}
use Rattle.dcr_engine.specs.Ran.{HasCalls}
use Rattle.dcr_app.specs.Telling.{by_workers}
use Rattle.dcr_app.proofs.OverLemmas.{ran_over, refused_over, run_on}
use Rattle.dcr_app.proofs.stored.by_workers.Goals as goal

pub returns-in-Ok-clause-ran : goal.returns-in-Ok-clause-ran
returns-in-Ok-clause-ran g c =
    let case = c.args.accepted.now.case in let closed = c.in-Ok.field-0.closed in let ran = c.in-Ok.ensures.ran in
    let OfSessions : List (List Call) → Type 0 = λ s. HasCalls s closed.history.entries in let calls = subst OfSessions c.all.ensures ran.calls in
    ran_over g.D.Disk.view g.D.Disk.faults case c.requires.accepted.case c.args.old.now c.args.store (by_workers c.args.workers) c.args.accepted.now.policy c.disk_of.result c.due_for.result closed c.in-Ok.field-0.store (length case.sessions)
    ran.whole c.in-Ok.ensures.possible c.disk_of.ensures calls ran.in_order c.due_for.ensures.due (λ f. f) c.requires.accepted.case.most_sessions calls.no_other

pub returns-in-Ok-clause-run : goal.returns-in-Ok-clause-run
returns-in-Ok-clause-run g c =
    let case = c.args.accepted.now.case in
    run_on g.D.Disk.view g.D.Disk.faults case.graph case.cover case.opening c.args.old.now c.args.store c.in-Ok.field-0.closed c.in-Ok.field-0.store c.in-Ok.ensures.ran.whole

pub returns-in-Err-clause-refused : goal.returns-in-Err-clause-refused
returns-in-Err-clause-refused g c =
    refused_over g.D.Disk.view g.D.Disk.faults c.args.accepted.now.case c.requires.accepted.case c.args.old.now c.args.store c.disk_of-in-Err.result c.cause_of.result c.in-Err.field-0.cause c.in-Err.field-0.store c.cause_of.ensures c.disk_of-in-Err.ensures c.in-Err.ensures.refused
