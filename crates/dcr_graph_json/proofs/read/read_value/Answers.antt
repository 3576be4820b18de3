use Rattle.std.proofs.Common.{Some, Err, ap, ◌∙◌}
use Rattle.serde_json.specs.View.{view}
use Rattle.dcr_graph_json.proofs.ReadLemmas.{is_shaped}
use Rattle.dcr_graph_json.proofs.read.read_value.Goals as goal

pub returns-in-Err-NoMemory-clause-misshapen : goal.returns-in-Err-NoMemory-clause-misshapen
returns-in-Err-NoMemory-clause-misshapen c =
    is_shaped c.args.version (Some (view c.args.value)) c.try_value.result _ (c.in-Err-NoMemory.is ∙ ap Err c.in-Err-NoMemory.field-0-is) c.try_value.ensures.misshapen
