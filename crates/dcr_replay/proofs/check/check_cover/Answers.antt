use Rattle.std.proofs.Common.{[], ◌∷◌, subst}
use Rattle.std.proofs.lemmas.Result.{IfOk-weaker}
use Rattle.dcr_report.specs.Report.{version_text}
use Rattle.dcr_replay.specs.HeadLines.{IsCoverAt, case_head, cover_line, graph_line}
use Rattle.dcr_replay.specs.Stands.{TellsOf}
use Rattle.dcr_replay.proofs.HeadLemmas.{cover_line_told}
use Rattle.dcr_replay.proofs.WrongLemmas.{tells_on, wrong_cover}
use Rattle.dcr_replay.proofs.check.check_cover.Goals as goal

pub returns-in_default-clause-verdict : goal.returns-in_default-clause-verdict
returns-in_default-clause-verdict c =
    let N = c.args.nested.now in let lines = c.args.lines.now in wrong_cover N c.requires.accepted lines (subst (IsCoverAt N lines) c.in_default.is c.in_ok-cover.ensures.found)

pub returns-clause-verdict : goal.returns-clause-verdict
returns-clause-verdict c = IfOk-weaker c.check_history.result _ _ (λ verdict told.
    let N = c.args.nested.now in let lines = c.args.lines.now in let C = c.in-Some.cover in
    let line = cover_line_told N lines C (subst (IsCoverAt N lines) c.in-Some.is c.in_ok-cover.ensures.found) in
    tells_on (version_text N.version ∷ graph_line N ∷ []) (cover_line N C) lines verdict line.1
    (subst (λ l. TellsOf (case_head N C) l verdict) c.pass.ensures (told N (record { flat = c.requires.flat; accepted_graph = c.requires.accepted; accepted_cover = line.0 })))) c.check_history.ensures
