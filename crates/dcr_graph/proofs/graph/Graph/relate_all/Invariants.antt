use Rattle.std.proofs.Common.{◌≡◌, ℕ, ◌||◌, take}
use Rattle.dcr_graph.specs.declared.kind.Kind.{Kind}
use Rattle.dcr_graph.specs.Pairs.{is_listed}
use Rattle.dcr_graph.specs.GraphValue.{rules_of}
use Rattle.dcr_graph.proofs.graph.Graph.relate_all.Given as goal

abbrev pub invariant-loop-pair : goal.invariant-loop-pair
invariant-loop-pair l = record {
  names : l.self.names ≡ l.fn.self.names;
  labels : l.self.labels ≡ l.fn.self.labels;
  related : (kind : Kind) (a b : ℕ) → (rules_of l.self).related kind a b ≡ ((rules_of l.fn.self).related kind a b || is_listed (take l.pair-index l.pairs) kind a b);
}
