use Rattle.std.proofs.Common.{◌≡◌, Some, None, drop, refl, subst, ap, ◌∙◌}
use Rattle.std.specs.Prelude.{⊤}
use Rattle.dcr_base.specs.declared.status.Status.TheVariants.{Refused}
use Rattle.dcr_log.specs.Records.{TellsBad, first_bad, records_of}
use Rattle.dcr_log.specs.Traces.{traces_of}
use Rattle.dcr_json.specs.Built.{case_of}
use Rattle.dcr_app.specs.Answers.{bytes_starved}
use Rattle.dcr_app.specs.Logged.{record_line}
use Rattle.dcr_app.specs.declared.command.Reading.TheVariants.{Conform}
use Rattle.dcr_app.proofs.AnswerLemmas.{refused_by}
use Rattle.dcr_app.proofs.ConformLemmas.{refuses_log, told_log}
use Rattle.dcr_app.proofs.OutsideLemmas.{adds_nothing, any_ok, told_line}
use Rattle.dcr_app.proofs.RunLemmas.{cases_are_accepted}
use Rattle.dcr_app.proofs.conform.conform_log.Goals as goal

pub returns-in-Ok : goal.returns-in-Ok
returns-in-Ok g c = λ bytes short spelled same.
    let case = c.args.case.now in
    told_log (cases_are_accepted c.when_each_refusal_comes.ensures.accepted) bytes (case_of case) case.graph c.deref.result.now (g.O.Sink.takes c.args.output.now) (g.O.Sink.takes c.conform_traces-status.new.output) c.conform_traces-status.result
    spelled (subst (λ l. first_bad (records_of l) ≡ None) same c.in-Ok.ensures.good) c.requires.case.flat
    (c.deref.ensures.value ∙ (c.in-Ok.ensures.traces ∙ ap (λ l. traces_of (drop 1 (records_of l))) same)) c.conform_traces-status.ensures

pub returns-in-Err-Bad : goal.returns-in-Err-Bad
returns-in-Err-Bad g c = λ bytes short spelled same.
    let had = g.O.Sink.takes c.args.output.now in let took = g.O.Sink.takes c.tell.new.output in
    refused_by Conform bytes (record_line c.in-Err-Bad.row) had took ⊤ _
    ((refl, refl), told_line c.numbered-line.result (λ line. line.items) (record_line c.in-Err-Bad.row) ⊤ Refused c.tell.result had took c.numbered-line.ensures (any_ok c.numbered-line.result) c.tell.ensures)
    (λ _. refuses_log bytes (case_of c.args.case.now) c.in-Err-Bad.row short spelled
    (subst (λ l. first_bad (records_of l) ≡ Some c.in-Err-Bad.row) same (subst (λ stop. TellsBad (first_bad (records_of c.args.log.now)) stop) c.in-Err-Bad.field-0-is c.in-Err-Bad.ensures.bad)))

pub returns-in-Err-NoMemory : goal.returns-in-Err-NoMemory
returns-in-Err-NoMemory g c = λ bytes short spelled same. bytes_starved (refl, refl) (refl, adds_nothing (g.O.Sink.takes c.args.output.now))
