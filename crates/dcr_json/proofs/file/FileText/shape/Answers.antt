use Rattle.std.proofs.Common.{None, Some, sym, ap, ◌∙◌}
use Rattle.std.proofs.lemmas.Result.{err_from_is_err_and}
use Rattle.dcr_format.specs.Facts.{refusal}
use Rattle.serde_json.specs.View.{view}
use Rattle.dcr_cover_json.specs.Seen.{written as cover_written}
use Rattle.dcr_graph_json.specs.Seen.{written as graph_written}
use Rattle.dcr_session_json.specs.Seen.{written as sessions_written}
use Rattle.dcr_json.proofs.FileLemmas.{cover_stop, graph_stop, same_written, sessions_fact, top_stop}
use Rattle.dcr_json.proofs.file.FileText.shape.Goals as goal

pub returns-in_default-clause-facts : goal.returns-in_default-clause-facts
returns-in_default-clause-facts c = ap Some c.no_top.ensures ∙ sym (top_stop (view c.args.value.now) (sym c.read_version.ensures ∙ c.in_default.is))

pub returns-in_err-graph-clause-facts : goal.returns-in_err-graph-clause-facts
returns-in_err-graph-clause-facts c =
    let end = err_from_is_err_and c.from_residual.result c.from_residual.ensures.1 in
    ap refusal end.1 ∙ ap Some end.2 ∙ sym (graph_stop (view c.args.value.now) c.in-Some.version (sym c.read_version.ensures ∙ c.in-Some.is) c.in_err-graph.field-0.0 (sym c.in_err-graph.ensures.facts))

pub returns-in_err-cover-clause-facts : goal.returns-in_err-cover-clause-facts
returns-in_err-cover-clause-facts c =
    let end = err_from_is_err_and c.from_residual-in_err-cover.result c.from_residual-in_err-cover.ensures.1 in
    ap refusal end.1 ∙ ap Some end.2 ∙ sym (cover_stop (view c.args.value.now) c.in-Some.version (sym c.read_version.ensures ∙ c.in-Some.is) (sym c.in_ok-graph.ensures.facts) c.in_err-cover.field-0.0 (sym c.in_err-cover.ensures.facts))

pub returns-in_err-sessions-clause-facts : goal.returns-in_err-sessions-clause-facts
returns-in_err-sessions-clause-facts c =
    let end = err_from_is_err_and c.from_residual-in_err-sessions.result c.from_residual-in_err-sessions.ensures.1 in
    ap refusal end.1 ∙ ap Some end.2 ∙ sym (sessions_fact (view c.args.value.now) c.in-Some.version (sym c.read_version.ensures ∙ c.in-Some.is) (sym c.in_ok-graph.ensures.facts) (sym c.in_ok-cover.ensures.facts) (Some c.in_err-sessions.field-0.0) (sym c.in_err-sessions.ensures.facts))

pub returns-clause-facts : goal.returns-clause-facts
returns-clause-facts c =
    sym (sessions_fact (view c.args.value.now) c.in-Some.version (sym c.read_version.ensures ∙ c.in-Some.is) (sym c.in_ok-graph.ensures.facts) (sym c.in_ok-cover.ensures.facts) None (sym c.in_ok-sessions.ensures.facts))

pub returns-clause-written : goal.returns-clause-written
returns-clause-written c =
    same_written (view c.args.value.now) c.in-Some.version (sym c.read_version.ensures ∙ c.in-Some.is) (graph_written c.in_ok-graph.graph) (cover_written c.in_ok-cover.cover) (sessions_written c.in_ok-sessions.sessions)
    c.in_ok-graph.ensures.written c.in_ok-cover.ensures.written c.in_ok-sessions.ensures.written
