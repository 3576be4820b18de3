use Rattle.std.proofs.Common.{None, refl}
use Rattle.dcr_json.specs.Built.{case_of}
use Rattle.dcr_report.specs.Report.{report_text}
use Rattle.dcr_app.specs.Answers.{Executed, bytes_told}
use Rattle.dcr_app.proofs.OverLemmas.{unrun_answers, unrun_leaves}
use Rattle.dcr_app.proofs.RunLemmas.{case_of_both}
use Rattle.dcr_app.proofs.run.execute.Goals as goal

pub returns-in-Ok-clause-told : goal.returns-in-Ok-clause-told
returns-in-Ok-clause-told g c = λ bytes spelled.
    let it = c.in-Ok.ensures.ran bytes (g.O.Sink.takes c.args.output.now) (g.O.Sink.takes c.report_unless-status.new.output) c.report_unless-status.result spelled c.report_unless-status.ensures.wrote in
    (bytes_told (refl, it.0), it.1)

pub returns-in-Ok-clause-door : goal.returns-in-Ok-clause-door
returns-in-Ok-clause-door g c =
    let case = c.args.accepted.now.case in let closed = c.in-Ok.field-0.closed in
    c.in-Ok.ensures.door (report_text case.nested case.cover closed.opening closed.history.entries) (g.O.Sink.takes c.args.output.now) (g.O.Sink.takes c.report_unless-status.new.output) c.report_unless-status.result
    c.report_unless-status.ensures.wanted c.report_unless-status.ensures.wrote

pub returns-in-Err-clause-told : goal.returns-in-Err-clause-told
returns-in-Err-clause-told g c = λ bytes spelled.
    let view = g.D.Disk.view in let faults = g.D.Disk.faults in let unrun = c.in-Err.field-0 in let case = case_of c.args.accepted.now.case in let had = g.O.Sink.takes c.args.output.now in let took = g.O.Sink.takes c.refuse_tape.new.output in
    let accepted = case_of_both bytes _ spelled in let status = c.refuse_tape.result in (
      unrun_answers view faults c.args.store case c.args.disk unrun.disk unrun.cause c.in-Err.ensures.unrun had took status bytes accepted
          (Executed view faults g.B.Door.tells c.args.door c.args.disk had took (record { status = status; closed = None; door = unrun.door; disk = unrun.disk; ends = c.new.result; world = None }))
          c.args.way (λ none. none) c.refuse_tape.ensures,
      unrun_leaves view faults c.args.store case c.args.disk unrun.disk unrun.cause c.in-Err.ensures.unrun had took status bytes accepted c.refuse_tape.ensures,
    )
