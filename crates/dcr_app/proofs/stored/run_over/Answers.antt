use Rattle.std.proofs.Common.{◌≤◌, List, length, Some, sym, subst}
use Rattle.std.proofs.lemmas.Result.{MatchResult-weaker}
use Rattle.sha2.proofs.Facts256.{length-sha256}
use Rattle.dcr_tape.specs.declared.entry.TapeEntry.{TapeEntry}
use Rattle.dcr_cell.specs.Stored.{MayBegin}
use Rattle.dcr_json.specs.Built.{case_of}
use Rattle.dcr_app.specs.Headline.{digest_of}
use Rattle.dcr_app.specs.Stored.{RanOver, RefusedOver}
use Rattle.dcr_app.specs.Telling.{LeavesFor, served_by, told_by}
use Rattle.dcr_app.specs.declared.command.Command.TheVariants.{Read}
use Rattle.dcr_app.specs.declared.command.Reading.TheVariants.{Execute}
use Rattle.dcr_app.specs.declared.command.Way.{Way}
use Rattle.dcr_app.proofs.OverLemmas.{few_begin, may_begin, run_begun, unopened_unrun, unrun_begun}
use Rattle.dcr_app.proofs.stored.run_over.Goals as goal

pub by_workers-requires-clause-few_old : goal.by_workers-requires-clause-few_old
by_workers-requires-clause-few_old g c κs within =
    subst (λ (old : List TapeEntry). length old ≤ 1000000) (sym c.deref.ensures.value)
    (few_begin g.D.Disk.view g.D.Disk.faults (digest_of (case_of c.args.accepted.now.case)) c.args.store c.args.disk c.in-Ok.first c.in-Ok.old.items c.in-Ok.ensures.begun)

pub by_workers-requires-clause-begins : goal.by_workers-requires-clause-begins
by_workers-requires-clause-begins g c κs within =
    subst (λ (old : List TapeEntry). MayBegin g.D.Disk.view old c.in-Ok.first) (sym c.deref.ensures.value)
    (may_begin g.D.Disk.view g.D.Disk.faults (digest_of (case_of c.args.accepted.now.case)) c.args.store c.args.disk c.in-Ok.first c.in-Ok.old.items c.in-Ok.ensures.begun)

pub returns-in-Run-clause-ran : goal.returns-in-Run-clause-ran
returns-in-Run-clause-ran g c =
    let view = g.D.Disk.view in let faults = g.D.Disk.faults in let accepted = c.args.accepted.now in let case = case_of accepted.case in
    MatchResult-weaker c.by_workers.result c.by_workers.ensures.ran (λ ran over bytes had took status spelled wrote.
    run_begun view faults c.one_list.ensures case (length-sha256 _) c.args.disk ran.disk c.when_each_refusal_comes.ensures.accepted (told_by g.B.Door.tells c.args.door ran.door ran.ends.items c.args.way) accepted.policy ran.due ran.closed
    bytes had took status spelled wrote c.args.store c.in-Ok.first c.in-Ok.old.items c.in-Ok.ensures.begun
    (subst (λ (old : List TapeEntry). RanOver view faults (told_by g.B.Door.tells c.args.door ran.door ran.ends.items c.args.way) case accepted.policy old c.in-Ok.first ran.disk ran.due ran.closed) c.deref.ensures.value
    (subst (λ (w : Way). RanOver view faults (told_by g.B.Door.tells c.args.door ran.door ran.ends.items w) case accepted.policy c.deref.result.now c.in-Ok.first ran.disk ran.due ran.closed) (sym c.in-Run.is) over))) (λ _ _. tt)

pub returns-in-Run-clause-door : goal.returns-in-Run-clause-door
returns-in-Run-clause-door g c =
    MatchResult-weaker c.by_workers.result c.by_workers.ensures.unserved (λ ran same text had took status wanted wrote.
    subst (λ (w : Way). LeavesFor g.B.Door.tells (served_by (Some (Read (Execute w c.args.store)))) (Some ran.closed) c.args.door ran.door ran.ends.items status) (sym c.in-Run.is) same) (λ _ _. tt)

pub returns-in-Run-clause-unrun : goal.returns-in-Run-clause-unrun
returns-in-Run-clause-unrun g c =
    let view = g.D.Disk.view in let faults = g.D.Disk.faults in let case = case_of c.args.accepted.now.case in
    MatchResult-weaker c.by_workers.result c.by_workers.ensures.refused (λ _ _. tt) (λ unrun it.
    unrun_begun view faults c.one_list.ensures case (length-sha256 _) c.args.disk unrun.disk c.args.store c.in-Ok.first c.in-Ok.old.items unrun.cause c.in-Ok.ensures.begun
    (subst (λ (old : List TapeEntry). RefusedOver view faults case old c.in-Ok.first unrun.disk unrun.cause) c.deref.ensures.value it))

pub over_links-requires-clause-few_old : goal.over_links-requires-clause-few_old
over_links-requires-clause-few_old g c κs within =
    subst (λ (old : List TapeEntry). length old ≤ 1000000) (sym c.deref-in-Serve.ensures.value)
    (few_begin g.D.Disk.view g.D.Disk.faults (digest_of (case_of c.args.accepted.now.case)) c.args.store c.args.disk c.in-Ok.first c.in-Ok.old.items c.in-Ok.ensures.begun)

pub over_links-requires-clause-begins : goal.over_links-requires-clause-begins
over_links-requires-clause-begins g c κs within =
    subst (λ (old : List TapeEntry). MayBegin g.D.Disk.view old c.in-Ok.first) (sym c.deref-in-Serve.ensures.value)
    (may_begin g.D.Disk.view g.D.Disk.faults (digest_of (case_of c.args.accepted.now.case)) c.args.store c.args.disk c.in-Ok.first c.in-Ok.old.items c.in-Ok.ensures.begun)

pub returns-in-Ok-clause-ran : goal.returns-in-Ok-clause-ran
returns-in-Ok-clause-ran g c =
    let view = g.D.Disk.view in let faults = g.D.Disk.faults in let accepted = c.args.accepted.now in let case = case_of accepted.case in
    MatchResult-weaker c.over_links.result c.over_links.ensures.ran (λ ran over bytes had took status spelled wrote.
    run_begun view faults c.one_list.ensures case (length-sha256 _) c.args.disk ran.disk c.when_each_refusal_comes.ensures.accepted (told_by g.B.Door.tells c.args.door ran.door ran.ends.items c.args.way) accepted.policy ran.due ran.closed
    bytes had took status spelled wrote c.args.store c.in-Ok.first c.in-Ok.old.items c.in-Ok.ensures.begun
    (subst (λ (old : List TapeEntry). RanOver view faults (told_by g.B.Door.tells c.args.door ran.door ran.ends.items c.args.way) case accepted.policy old c.in-Ok.first ran.disk ran.due ran.closed) c.deref-in-Serve.ensures.value
    (subst (λ (w : Way). RanOver view faults (told_by g.B.Door.tells c.args.door ran.door ran.ends.items w) case accepted.policy c.deref-in-Serve.result.now c.in-Ok.first ran.disk ran.due ran.closed) (sym c.in-Serve.is) over))) (λ _ _. tt)

pub returns-in-Ok-clause-door : goal.returns-in-Ok-clause-door
returns-in-Ok-clause-door g c =
    MatchResult-weaker c.over_links.result c.over_links.ensures.served (λ ran serves text had took status wanted wrote.
    subst (λ (w : Way). LeavesFor g.B.Door.tells (served_by (Some (Read (Execute w c.args.store)))) (Some ran.closed) c.args.door ran.door ran.ends.items status) (sym c.in-Serve.is) (serves text had took status wanted wrote)) (λ _ _. tt)

pub returns-in-Ok-clause-unrun : goal.returns-in-Ok-clause-unrun
returns-in-Ok-clause-unrun g c =
    let view = g.D.Disk.view in let faults = g.D.Disk.faults in let case = case_of c.args.accepted.now.case in
    MatchResult-weaker c.over_links.result c.over_links.ensures.refused (λ _ _. tt) (λ unrun it.
    unrun_begun view faults c.one_list.ensures case (length-sha256 _) c.args.disk unrun.disk c.args.store c.in-Ok.first c.in-Ok.old.items unrun.cause c.in-Ok.ensures.begun
    (subst (λ (old : List TapeEntry). RefusedOver view faults case old c.in-Ok.first unrun.disk unrun.cause) c.deref-in-Serve.ensures.value it))

pub returns-clause-unrun : goal.returns-clause-unrun
returns-clause-unrun g c =
    let refused = c.in-Err.field-0 in
    unopened_unrun g.D.Disk.view g.D.Disk.faults (case_of c.args.accepted.now.case) c.args.disk refused.disk refused.cause c.args.store c.in-Err.ensures.stored c.in-Err.ensures.refused c.in-Err.ensures.counts
