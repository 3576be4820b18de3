use Rattle.std.proofs.Common.{refl, sym, ap, subst, ◌∙◌}
use Rattle.std.proofs.lemmas.Result.{IfOk-weaker}
use Rattle.dcr_line.specs.DirectoryModel.{Named}
use Rattle.dcr_graph_json.specs.Build.{atom_names}
use Rattle.dcr_replay.specs.EntryLines.{Setting}
use Rattle.dcr_replay.specs.HeadLines.{case_head, opening_at}
use Rattle.dcr_replay.specs.ReportLines.{head_of}
use Rattle.dcr_replay.specs.Stands.{TellsOf}
use Rattle.dcr_replay.proofs.HeadLemmas.{open_text, opening_told}
use Rattle.dcr_replay.proofs.NextLemmas.{many_atoms}
use Rattle.dcr_replay.proofs.WrongLemmas.{tells_on, wrong_opening}
use Rattle.dcr_replay.proofs.check.check_opening.Goals as goal

pub returns-in_default-clause-verdict : goal.returns-in_default-clause-verdict
returns-in_default-clause-verdict c = λ N case.
    let lines = c.args.lines.now in
    wrong_opening N case.accepted_graph c.args.cover.now case.accepted_cover lines
    (ap (λ names. opening_at names lines) (sym case.flat.names ∙ ap (λ (d : Named). d.atoms) (sym c.requires.directory)) ∙ sym c.read_opening.ensures.opening ∙ c.in_default.is)

pub returns-clause-verdict : goal.returns-clause-verdict
returns-clause-verdict c = IfOk-weaker c.check_run.result _ _ (λ verdict told N case.
    let lines = c.args.lines.now in let C = c.args.cover.now in let M = c.in-Some.opening in let many = many_atoms N in
    let marks = opening_told (atom_names N) M lines
    (ap (λ names. opening_at names lines) (sym case.flat.names ∙ ap (λ (d : Named). d.atoms) (sym c.requires.directory)) ∙ sym c.read_opening.ensures.opening ∙ c.in-Some.is) in
    let S : Setting = record {
      nest = N;
      cover = C;
      opening = M;
      accepted_graph = case.accepted_graph;
      accepted_cover = case.accepted_cover;
      room = record { executed = marks.fits.executed ∙ many; pending = marks.fits.pending ∙ many; included = marks.fits.included ∙ many };
    } in
    tells_on (case_head N C) (open_text (atom_names N) M) lines verdict marks.cut
    (subst (λ l. TellsOf (head_of S) l verdict) c.pass.ensures (told S (record { rules = case.flat.related; names = case.flat.names; cover = refl }) refl))) c.check_run.ensures
