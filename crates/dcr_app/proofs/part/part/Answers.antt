use Rattle.std.proofs.Common.{refl}
use Rattle.dcr_roles.specs.Accepted.{HadMemory}
use Rattle.dcr_app.specs.Parted.{refuses_case}
use Rattle.dcr_app.specs.Refusal.{refusal_line}
use Rattle.dcr_app.specs.declared.command.Reading.TheVariants.{Part}
use Rattle.dcr_app.proofs.AnswerLemmas.{refused_by}
use Rattle.dcr_app.proofs.RunLemmas.{case_of_both, case_of_stop}
use Rattle.dcr_app.proofs.part.part.Goals as goal

pub returns-in-Err : goal.returns-in-Err
returns-in-Err g c =
    refused_by (Part c.args.site.now) c.args.bytes.now (refusal_line c.in-Err.stop) (g.O.Sink.takes c.args.output.now) (g.O.Sink.takes c.refuse.new.output) (HadMemory c.in-Err.stop) c.refuse.result c.refuse.ensures
    (λ had. refuses_case c.in-Err.stop (case_of_stop c.args.bytes.now c.in-Err.stop (c.in-Err.ensures.says had)) had refl)

pub returns-in-Ok : goal.returns-in-Ok
returns-in-Ok g c = c.part_of_case.ensures c.args.bytes.now (case_of_both c.args.bytes.now _ c.in-Ok.ensures.says)
