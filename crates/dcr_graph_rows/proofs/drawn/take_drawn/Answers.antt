use Rattle.std.proofs.Common.{sym, subst, ◌∙◌}
use Rattle.dcr_graph.specs.GraphValue.{rules_of}
use Rattle.dcr_graph.specs.declared.marking.Marking.{Marking}
use Rattle.dcr_node.specs.Right.{IsRight}
use Rattle.dcr_graph_rows.proofs.drawn.take_drawn.Goals as goal

pub loop-preserved : goal.loop-preserved
loop-preserved c =
    let G = rules_of c.args.graph.now in let C = c.args.cover.now.owned in
    record {
      right = subst (λ (M : Marking). IsRight G C M c.take.new.world) (sym c.take.ensures.kept.opening) c.take.ensures.right;
      sessions = c.take.ensures.kept.sessions ∙ c.loop.invariant.sessions;
    }
