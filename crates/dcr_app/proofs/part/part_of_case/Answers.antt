use Rattle.std.proofs.Common.{◌∙◌, refl, sym}
use Rattle.std.specs.Prelude.{⊤}
use Rattle.dcr_base.specs.declared.status.Status.TheVariants.{Done}
use Rattle.dcr_json.specs.Built.{case_of}
use Rattle.dcr_part.specs.Whole.{IsWhole, part_text}
use Rattle.dcr_app.specs.Parted.{no_site_line, refuses_site, whole_at}
use Rattle.dcr_app.specs.declared.command.Reading.TheVariants.{Part}
use Rattle.dcr_app.proofs.AnswerLemmas.{refused_by}
use Rattle.dcr_app.proofs.OutsideLemmas.{told_line}
use Rattle.dcr_app.proofs.PartLemmas.{site_within, told_part}
use Rattle.dcr_app.proofs.RunLemmas.{cases_are_accepted}
use Rattle.dcr_app.proofs.part.part_of_case.Goals as goal

pub returns-in_default : goal.returns-in_default
returns-in_default g c = λ bytes spelled.
    refused_by (Part c.args.site.now) bytes (no_site_line c.args.site.now) (g.O.Sink.takes c.args.output.now) (g.O.Sink.takes c.no_site.new.output) ⊤ c.no_site.result c.no_site.ensures
    (λ _. refuses_site (case_of c.args.case.now) spelled (sym c.find.ensures ∙ c.in_default.is) refl)

pub text_of-requires-clause-site : goal.text_of-requires-clause-site
text_of-requires-clause-site g c = site_within c.args.case.now.cover.names c.args.site.now c.in-Some.number (sym c.find.ensures ∙ c.in-Some.is)

pub returns : goal.returns
returns g c = λ bytes spelled.
    let W = whole_at (case_of c.args.case.now) c.in-Some.number in
    told_part (cases_are_accepted c.when_each_refusal_comes.ensures.accepted) c.args.site.now bytes (case_of c.args.case.now) c.in-Some.number (g.O.Sink.takes c.args.output.now) (g.O.Sink.takes c.tell-status.new.output) c.tell-status.result
    spelled (sym c.find.ensures ∙ c.in-Some.is)
    (told_line c.text_of.result (λ text. text.items) (part_text W) (IsWhole W) Done c.tell-status.result (g.O.Sink.takes c.args.output.now) (g.O.Sink.takes c.tell-status.new.output) c.text_of.ensures.text c.text_of.ensures.whole c.tell-status.ensures)
