use Rattle.std.proofs.Common.{refl, sym, subst}
use Rattle.dcr_roles.specs.Accepted.{HadMemory}
use Rattle.dcr_app.specs.Answers.{AnswersPlain}
use Rattle.dcr_app.specs.Command.{HasNumbers}
use Rattle.dcr_app.specs.Refusal.{refusal_line}
use Rattle.dcr_app.specs.declared.command.Command.TheVariants.{Read}
use Rattle.dcr_app.specs.declared.command.Reading.{Reading}
use Rattle.dcr_app.specs.declared.command.Reading.TheVariants.{Execute}
use Rattle.dcr_app.proofs.AnswerLemmas.{refused_by}
use Rattle.dcr_app.proofs.RunLemmas.{case_of_stop}
use Rattle.dcr_app.proofs.app.task_of_bytes.Goals as goal

pub returns-in-Ok-clause-task : goal.returns-in-Ok-clause-task
returns-in-Ok-clause-task g c = record {
  asked = c.in-Execute.is;
  numbers = subst (λ (r : Reading). HasNumbers (Read r)) c.in-Execute.is c.requires.numbers;
  fits = c.in-Ok.ensures.fits;
  spelled = c.in-Ok.ensures.says;
  nothing = refl;
}

pub returns-in-Err-clause-task : goal.returns-in-Err-clause-task
returns-in-Err-clause-task g c =
    let had = g.O.Sink.takes c.args.output.now in let took = g.O.Sink.takes c.refuse.new.output in
    subst (λ (r : Reading). AnswersPlain r c.args.bytes.now had took c.refuse.result) (sym c.in-Execute.is)
    (refused_by (Execute c.in-Execute.way c.in-Execute.store) c.args.bytes.now (refusal_line c.in-Err.stop) had took (HadMemory c.in-Err.stop) c.refuse.result c.refuse.ensures
    (λ memory. (c.in-Err.stop, case_of_stop c.args.bytes.now c.in-Err.stop (c.in-Err.ensures.says memory), memory, refl)))
