use Rattle.std.proofs.Common.{arith}
use Rattle.serde_json.specs.View.{view}
use Rattle.dcr_cover_json.specs.Text.{cover_value, cover_text}
use Rattle.dcr_format.proofs.PlainLemmas.{text_written, json_written}
use Rattle.dcr_cover_json.proofs.ValueLemmas.{plain_cover}
use Rattle.dcr_cover_json.proofs.text.cover_text.Goals as goal

pub returns-clause-text : goal.returns-clause-text
unfolding cover_text
returns-clause-text c =
    let atoms = c.args.graph.now.names in
    let cover = c.args.cover.now in
    text_written 3 (cover_value atoms cover) (view c.in_ok-value.value) c.in_ok-to_vec.field-0.items (plain_cover atoms cover) c.in_ok-value.ensures c.in_ok-to_vec.ensures.text

pub returns-clause-reads_back : goal.returns-clause-reads_back
returns-clause-reads_back c =
    let atoms = c.args.graph.now.names in
    let cover = c.args.cover.now in
    let text = text_written 3 (cover_value atoms cover) (view c.in_ok-value.value) c.in_ok-to_vec.field-0.items (plain_cover atoms cover) c.in_ok-value.ensures c.in_ok-to_vec.ensures.text in
    json_written 3 (cover_value atoms cover) c.in_ok-to_vec.field-0.items (plain_cover atoms cover) (omega arith) text c.in_ok-to_vec.ensures.utf8
