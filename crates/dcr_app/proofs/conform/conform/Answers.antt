use Rattle.dcr_roles.specs.Accepted.{HadMemory}
use Rattle.dcr_app.specs.Refusal.{refusal_line}
use Rattle.dcr_app.specs.declared.command.Reading.TheVariants.{Conform}
use Rattle.dcr_app.proofs.AnswerLemmas.{refused_by}
use Rattle.dcr_app.proofs.ConformLemmas.{refuses_line}
use Rattle.dcr_app.proofs.RunLemmas.{case_of_stop}
use Rattle.dcr_app.proofs.conform.conform.Goals as goal

pub returns-in-Err : goal.returns-in-Err
returns-in-Err g c =
    refused_by Conform c.args.bytes.now (refusal_line c.in-Err.stop) (g.O.Sink.takes c.args.output.now) (g.O.Sink.takes c.refuse.new.output) (HadMemory c.in-Err.stop) c.refuse.result c.refuse.ensures
    (refuses_line c.args.bytes.now c.parts.result.0.now c.in-Err.stop c.requires c.parts.ensures.case (λ had. case_of_stop c.parts.result.0.now c.in-Err.stop (c.in-Err.ensures.says had)))
