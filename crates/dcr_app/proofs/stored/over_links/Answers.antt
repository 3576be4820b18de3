use Rattle.std.proofs.Common.{List, length, subst, arith}
use Rattle.dcr_graph.specs.GraphValue.{rules_of}
use Rattle.dcr_link.specs.Replies.{terms_of}
use Rattle.dcr_engine.specs.Served.{ServedIn}
use Rattle.dcr_app.specs.Telling.{over_links}
use Rattle.dcr_app.proofs.DueLemmas.{due_of}
use Rattle.dcr_app.proofs.LinksLemmas.{door_rose, leaves_door}
use Rattle.dcr_app.proofs.OverLemmas.{ran_over, refused_over, run_on}
use Rattle.dcr_app.proofs.stored.over_links.Goals as goal

pub returns-in-Ok-clause-ran : goal.returns-in-Ok-clause-ran
returns-in-Ok-clause-ran g c =
    let accepted = c.args.accepted.now in let case = accepted.case in let end = c.in-Ok.field-0 in let closed = end.finished.closed in let served = c.in-Ok.ensures.served in let sessions = served.sessions_served in
    let OfNames : List (List _) → Type 0 = λ names. ServedIn g.B.Door.tells.each c.args.store (terms_of case.cover.names names accepted.policy) (g.B.Door.tells.links c.args.door) c.args.sessions end.ends.items closed.history.entries in
    ran_over g.D.Disk.view g.D.Disk.faults case c.requires.accepted.case c.args.old.now c.args.store (over_links g.B.Door.tells c.args.door end.door c.args.sessions end.ends.items) accepted.policy c.disk_of.result c.due_served.result closed end.finished.store
    (length end.ends.items) served.whole c.in-Ok.ensures.possible c.disk_of.ensures (subst OfNames c.requires.accepted.case.flat.names sessions) tt c.due_served.ensures.due (door_rose _ _ _ c.in-Ok.ensures.door.counts)
    (let many = sessions.most in omega (arith, many, c.requires.sessions.1)) sessions.no_other

pub returns-in-Ok-clause-run : goal.returns-in-Ok-clause-run
returns-in-Ok-clause-run g c =
    let case = c.args.accepted.now.case in let finished = c.in-Ok.field-0.finished in
    run_on g.D.Disk.view g.D.Disk.faults case.graph case.cover case.opening c.args.old.now c.args.store finished.closed finished.store c.in-Ok.ensures.served.whole

pub returns-in-Ok-clause-served : goal.returns-in-Ok-clause-served
returns-in-Ok-clause-served g c = λ text had took status wanted wrote.
    let case = c.args.accepted.now.case in let end = c.in-Ok.field-0 in let closed = end.finished.closed in let served = c.in-Ok.ensures.served in
    let run = returns-in-Ok-clause-run g c in
    leaves_door g.B.Door.tells c.args.store (terms_of case.cover.names case.graph.names c.args.accepted.now.policy) c.args.door end.door c.args.sessions end.ends.items closed.history.entries served.sessions_served
    end.door_failed end.no_memory c.due_served.result text status had took c.in-Ok.ensures.door wanted c.due_served.ensures.unfailed
    (due_of (rules_of case.graph) case.cover.owned closed.opening closed.history.entries c.due_served.result run.legal (door_rose _ _ _ c.in-Ok.ensures.door.counts) c.due_served.ensures.due) wrote

pub returns-in-Err-clause-refused : goal.returns-in-Err-clause-refused
returns-in-Err-clause-refused g c =
    let refused = c.in-Err.field-0.refused in
    refused_over g.D.Disk.view g.D.Disk.faults c.args.accepted.now.case c.requires.accepted.case c.args.old.now c.args.store c.disk_of-in-Err.result c.cause_of.result refused.cause refused.store c.cause_of.ensures c.disk_of-in-Err.ensures c.in-Err.ensures.refused
