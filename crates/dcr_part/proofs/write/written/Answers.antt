use Rattle.serde_json.specs.View.{view}
use Rattle.dcr_part.proofs.TextLemmas.{line_written}
use Rattle.dcr_part.proofs.write.written.Goals as goal

pub returns : goal.returns
returns c = line_written _ (view c.in_ok-value.value) c.in_ok-text.text.items _ c.in_ok-value.ensures c.in_ok-text.ensures.text c.in_ok-push.ensures.items
