use Rattle.std.proofs.Common.{[], ◌∷◌, drop, refl, sym, ap, subst, ◌∙◌}
use Rattle.std.proofs.lemmas.Result.{IfOk-weaker}
use Rattle.dcr_report.specs.Report.{version_text}
use Rattle.dcr_text.specs.Lines.{lines_of}
use Rattle.dcr_replay.specs.HeadLines.{version_at}
use Rattle.dcr_replay.specs.Stands.{TellsOf}
use Rattle.dcr_replay.proofs.HeadLemmas.{version_line_told}
use Rattle.dcr_replay.proofs.WrongLemmas.{tells_on, wrong_head}
use Rattle.dcr_replay.proofs.check.check_report.Goals as goal

pub returns-in_default-clause-verdict : goal.returns-in_default-clause-verdict
returns-in_default-clause-verdict c =
    let bytes = c.args.bytes.now in
    wrong_head (lines_of bytes) (ap version_at (sym c.of-lines.ensures) ∙ sym c.read_version.ensures ∙ c.in_default.is)
    c.canonical_texts.ensures.one_line c.canonical_texts.ensures.one bytes refl

pub returns-clause-verdict : goal.returns-clause-verdict
returns-clause-verdict c = IfOk-weaker c.check_graph.result _ _ (λ verdict told.
    let bytes = c.args.bytes.now in let version = c.in-Some.version in
    tells_on [] (version_text version) (lines_of bytes) verdict
    (version_line_told (lines_of bytes) version (ap version_at (sym c.of-lines.ensures) ∙ sym c.read_version.ensures ∙ c.in-Some.is))
    (subst (λ l. TellsOf (version_text version ∷ []) l verdict) (c.pass.ensures ∙ ap (drop 1) c.of-lines.ensures) told)
    c.canonical_texts.ensures.one_line c.canonical_texts.ensures.one bytes refl) c.check_graph.ensures.verdict
