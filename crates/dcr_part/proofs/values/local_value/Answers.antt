use Rattle.std.proofs.Common.{◌≡◌, ◌&&◌, length, ap, subst}
use Rattle.std.specs.Result.{IfOk}
use Rattle.serde_json.specs.View.{view}
use Rattle.dcr_set.specs.EventSet.{has}
use Rattle.dcr_graph.specs.GraphValue.{rules_of}
use Rattle.dcr_graph.specs.Projection.{local_rules}
use Rattle.dcr_part.proofs.TextLemmas.{rows_same}
use Rattle.dcr_part.proofs.values.local_value.Goals as goal

pub rows_value-requires : goal.rows_value-requires
rows_value-requires c = c.targets_of.ensures.room (rules_of c.args.graph.now) c.requires

pub returns : goal.returns
returns c =
    let G = rules_of c.args.graph.now in let kind = c.args.kind in
    subst (λ d. IfOk c.rows_value.result (λ value. view value ≡ d))
    (rows_same (length c.args.graph.now.names) (λ a b. G.related kind a b && has c.targets_of.result.now b) ((local_rules G c.args.projection.now.own).related kind) (λ a b atom below.
    ap (λ t. G.related kind a b && t) (c.targets_of.ensures.targets G c.requires b below)))
    c.rows_value.ensures
