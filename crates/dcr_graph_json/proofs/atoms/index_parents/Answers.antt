use Rattle.std.proofs.Common.{ap, ◌∙◌, is_some}
use Rattle.dcr_graph.specs.Names.{number_of}
use Rattle.dcr_graph_json.proofs.LoopLemmas.{numbered}
use Rattle.dcr_graph_json.proofs.atoms.index_parents.Goals as goal

pub returns-clause-parents : goal.returns-clause-parents
returns-clause-parents c = λ name.
    ap (λ texts. is_some (number_of texts name)) c.in_ok-parents.ensures ∙ (numbered c.in_ok-texts.texts.items name ∙ c.in_ok-texts.ensures.parents name)
