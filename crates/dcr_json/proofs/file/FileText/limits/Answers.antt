use Rattle.std.proofs.Common.{◌≡◌, ◌≢◌, None, Some, sym, rules}
use Rattle.dcr_format.specs.Facts.{first}
use Rattle.dcr_format.specs.declared.stop.CaseStop.TheVariants.{NoMemory}
use Rattle.dcr_cover_json.specs.Limits.{limit_facts as cover_limits}
use Rattle.dcr_graph_json.specs.Limits.{limit_facts as graph_limits}
use Rattle.dcr_session_json.specs.Limits.{limit_facts as session_limits}
use Rattle.dcr_json.specs.Facts.{limit_facts}
use Rattle.dcr_json.specs.Seen.{written}
use Rattle.dcr_format.proofs.StageLemmas.{first_stop, second_stop, third_fact}
use Rattle.dcr_json.proofs.file.FileText.limits.Goals as goal

pub returns-in_err-limits : goal.returns-in_err-limits
unfolding limit_facts
returns-in_err-limits c =
    let w = written c.args.self.now in
    let stopped : c.in_err-limits.field-0.0 ≢ NoMemory → first (limit_facts w) ≡ Some c.in_err-limits.field-0.0 = λ memory.
    first_stop (graph_limits w.graph) (cover_limits w.sites) (session_limits w.sessions) c.in_err-limits.field-0.0 (c.in_err-limits.ensures.facts memory) in
    search rules

pub returns-in_err-limits-2 : goal.returns-in_err-limits-2
unfolding limit_facts
returns-in_err-limits-2 c =
    let w = written c.args.self.now in
    let stopped : c.in_err-limits-2.field-0.0 ≢ NoMemory → first (limit_facts w) ≡ Some c.in_err-limits-2.field-0.0 = λ memory.
    second_stop (graph_limits w.graph) (cover_limits w.sites) (session_limits w.sessions) c.in_ok-limits.ensures.facts c.in_err-limits-2.field-0.0 (sym c.in_err-limits-2.ensures.facts) in
    search rules

pub returns-in_err-limits-3 : goal.returns-in_err-limits-3
unfolding limit_facts
returns-in_err-limits-3 c =
    let w = written c.args.self.now in
    let stopped : c.in_err-limits-3.field-0.0 ≢ NoMemory → first (limit_facts w) ≡ Some c.in_err-limits-3.field-0.0 = λ memory.
    third_fact (graph_limits w.graph) (cover_limits w.sites) (session_limits w.sessions) c.in_ok-limits.ensures.facts (sym c.in_ok-limits-2.ensures.facts) (Some c.in_err-limits-3.field-0.0) (sym c.in_err-limits-3.ensures) in
    search rules

pub returns : goal.returns
unfolding limit_facts
returns c =
    let w = written c.args.self.now in
    third_fact (graph_limits w.graph) (cover_limits w.sites) (session_limits w.sessions) c.in_ok-limits.ensures.facts (sym c.in_ok-limits-2.ensures.facts) None (sym c.in_ok-limits-3.ensures)
