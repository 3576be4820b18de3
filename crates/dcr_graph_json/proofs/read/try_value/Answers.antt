use Rattle.std.proofs.Common.{◌≢◌, ◌++◌, Some, sym, ap, subst, ◌∙◌, rules}
use Rattle.serde_json.specs.View.{view}
use Rattle.dcr_format.specs.Facts.{first}
use Rattle.dcr_format.specs.declared.stop.CaseStop.TheVariants.{NoMemory}
use Rattle.dcr_format.proofs.FactLemmas.{append_here, append_past}
use Rattle.dcr_graph_json.specs.Accepted.{IsAcceptedGraph}
use Rattle.dcr_graph_json.specs.Build.{build_facts, nest_in}
use Rattle.dcr_graph_json.specs.Limits.{limit_facts}
use Rattle.dcr_graph_json.specs.Shape.{shape_facts, written_in}
use Rattle.dcr_graph_json.specs.Written.{Written}
use Rattle.dcr_graph_json.proofs.read.try_value.Goals as goal

pub returns-in_err-graph-clause-facts : goal.returns-in_err-graph-clause-facts
returns-in_err-graph-clause-facts c =
    let d = Some (view c.args.value.now) in
    let w = written_in c.args.version d in
    let stopped = λ (memory : c.in_err-graph.field-0.0 ≢ NoMemory). append_here (shape_facts c.args.version d) (limit_facts w ++ build_facts w) c.in_err-graph.field-0.0 (sym c.in_err-graph.ensures.facts) in search rules

pub returns-in_err-limits-clause-facts : goal.returns-in_err-limits-clause-facts
returns-in_err-limits-clause-facts c =
    let d = Some (view c.args.value.now) in
    let w = written_in c.args.version d in
    let stopped = λ (memory : c.in_err-limits.field-0.0 ≢ NoMemory).
    append_past (shape_facts c.args.version d) (limit_facts w ++ build_facts w) (sym c.in_ok-graph.ensures.facts)
    ∙ append_here (limit_facts w) (build_facts w) c.in_err-limits.field-0.0 (ap (λ v. first (limit_facts v)) (sym c.in_ok-graph.ensures.written) ∙ c.in_err-limits.ensures.facts memory) in search rules

pub returns-in_err-built-clause-facts : goal.returns-in_err-built-clause-facts
returns-in_err-built-clause-facts c =
    let d = Some (view c.args.value.now) in
    let w = written_in c.args.version d in
    let stopped = λ (memory : c.in_err-built.field-0.0 ≢ NoMemory).
    append_past (shape_facts c.args.version d) (limit_facts w ++ build_facts w) (sym c.in_ok-graph.ensures.facts)
    ∙ append_past (limit_facts w) (build_facts w) (ap (λ v. first (limit_facts v)) (sym c.in_ok-graph.ensures.written) ∙ c.in_ok-limits.ensures.facts)
    ∙ (ap (λ v. first (build_facts v)) (sym c.in_ok-graph.ensures.written) ∙ c.in_err-built.ensures.facts memory) in search rules

pub returns-clause-facts : goal.returns-clause-facts
returns-clause-facts c =
    let d = Some (view c.args.value.now) in
    let w = written_in c.args.version d in
    append_past (shape_facts c.args.version d) (limit_facts w ++ build_facts w) (sym c.in_ok-graph.ensures.facts)
    ∙ append_past (limit_facts w) (build_facts w) (ap (λ v. first (limit_facts v)) (sym c.in_ok-graph.ensures.written) ∙ c.in_ok-limits.ensures.facts)
    ∙ (ap (λ v. first (build_facts v)) (sym c.in_ok-graph.ensures.written) ∙ c.in_ok-built.ensures.facts)

pub returns-clause-nested : goal.returns-clause-nested
returns-clause-nested c = c.in_ok-built.ensures.nested ∙ ap nest_in c.in_ok-graph.ensures.written

pub returns-clause-accepted : goal.returns-clause-accepted
returns-clause-accepted c = subst (λ v. IsAcceptedGraph v c.in_ok-built.built.nested) (ap (λ (w : Written). w.version) c.in_ok-graph.ensures.written) c.in_ok-built.ensures.accepted
