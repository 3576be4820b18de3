use Rattle.std.proofs.Common.{[], ◌∷◌, drop, ap, option_map, subst}
use Rattle.std.proofs.lemmas.Result.{IfOk-weaker}
use Rattle.dcr_graph_json.specs.declared.written.Flattened.{Flattened}
use Rattle.dcr_report.specs.Report.{version_text}
use Rattle.dcr_replay.specs.HeadLines.{IsGraphAt, graph_line}
use Rattle.dcr_replay.specs.Stands.{TellsOf}
use Rattle.dcr_replay.proofs.HeadLemmas.{graph_line_told, own_version}
use Rattle.dcr_replay.proofs.WrongLemmas.{tells_on, wrong_graph}
use Rattle.dcr_replay.proofs.check.check_graph.Goals as goal

pub returns-in_default-clause-verdict : goal.returns-in_default-clause-verdict
returns-in_default-clause-verdict c =
    wrong_graph c.args.version c.args.lines.now (subst (IsGraphAt c.args.version c.args.lines.now) (ap (option_map (λ (built : Flattened). built.nested)) c.in_default.is) c.in_ok-built.ensures.found)

pub check_cover-requires-clause-accepted : goal.check_cover-requires-clause-accepted
check_cover-requires-clause-accepted c =
    own_version c.args.version c.in-Some.built.nested
    (graph_line_told c.args.version c.args.lines.now c.in-Some.built.nested (subst (IsGraphAt c.args.version c.args.lines.now) (ap (option_map (λ (built : Flattened). built.nested)) c.in-Some.is) c.in_ok-built.ensures.found)).0

pub returns-clause-verdict : goal.returns-clause-verdict
returns-clause-verdict c = IfOk-weaker c.check_cover.result _ _ (λ verdict told.
    let version = c.args.version in let lines = c.args.lines.now in let N = c.in-Some.built.nested in
    let line = graph_line_told version lines N (subst (IsGraphAt version lines) (ap (option_map (λ (built : Flattened). built.nested)) c.in-Some.is) c.in_ok-built.ensures.found) in
    tells_on (version_text version ∷ []) (graph_line N) lines verdict line.1
    (subst (λ v. TellsOf (version_text v ∷ graph_line N ∷ []) (drop 1 lines) verdict) line.0.of_version
    (subst (λ l. TellsOf (version_text N.version ∷ graph_line N ∷ []) l verdict) c.pass.ensures told))) c.check_cover.ensures.verdict
