use Rattle.std.proofs.Common.{None, arith}
use Rattle.serde_json.specs.View.{view}
use Rattle.dcr_format.proofs.PlainLemmas.{text_written, json_written}
use Rattle.dcr_graph_json.specs.Text.{graph_value, graph_text}
use Rattle.dcr_graph_json.proofs.ValueLemmas.{plain_graph}
use Rattle.dcr_graph_json.proofs.text.graph_text.Goals as goal

pub returns-clause-text : goal.returns-clause-text
unfolding graph_text
returns-clause-text c =
    let N = c.args.nested.now in
    text_written 3 (graph_value N None) (view c.in_ok-value.value) c.in_ok-to_vec.field-0.items (plain_graph N None) c.in_ok-value.ensures c.in_ok-to_vec.ensures.text

pub returns-clause-reads_back : goal.returns-clause-reads_back
returns-clause-reads_back c =
    let N = c.args.nested.now in
    let text = text_written 3 (graph_value N None) (view c.in_ok-value.value) c.in_ok-to_vec.field-0.items (plain_graph N None) c.in_ok-value.ensures c.in_ok-to_vec.ensures.text in
    json_written 3 (graph_value N None) c.in_ok-to_vec.field-0.items (plain_graph N None) (omega arith) text c.in_ok-to_vec.ensures.utf8
