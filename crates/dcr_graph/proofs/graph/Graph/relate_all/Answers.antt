use Rattle.std.proofs.Common.{◌∙◌}
use Rattle.dcr_graph.proofs.GraphLemmas.{is_listed-more, or_chain}
use Rattle.dcr_graph.proofs.graph.Graph.relate_all.Goals as goal

pub loop-pair-preserved : goal.loop-pair-preserved
loop-pair-preserved c = record {
  names = c.relate.ensures.names ∙ c.loop-pair.invariant.names;
  labels = c.relate.ensures.labels ∙ c.loop-pair.invariant.labels;
  related = λ kind a b. or_chain _ _ _ _ _ _ (c.relate.ensures.related kind a b) (c.loop-pair.invariant.related kind a b)
      (is_listed-more c.args.pairs.now c.loop-pair.pair-index c.pair-item.result c.loop-pair-test.true c.pair-item.is kind a b);
}
