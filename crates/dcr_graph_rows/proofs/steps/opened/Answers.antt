use Rattle.std.proofs.Common.{sym, ap, subst}
use Rattle.dcr_graph.specs.GraphValue.{rules_of}
use Rattle.dcr_graph.specs.declared.marking.Marking.{Marking}
use Rattle.dcr_node.specs.Right.{IsRight}
use Rattle.dcr_node.specs.WorldState.{WorldState}
use Rattle.dcr_graph_rows.proofs.steps.opened.Goals as goal

pub returns-clause-right : goal.returns-clause-right
returns-clause-right c =
    let G = rules_of c.args.graph.now in let C = c.args.cover.now.owned in
    subst (λ (M : Marking). IsRight G C M c.in_ok-world.world) (sym (ap (λ (w : WorldState). w.opening) c.in_ok-world.ensures.opened)) c.in_ok-world.ensures.right
