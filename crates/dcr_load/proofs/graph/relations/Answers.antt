use Rattle.std.proofs.Common.{ap, sym, ◌∙◌}
use Rattle.dcr_load.specs.LoadGraph.{relation_at}
use Rattle.dcr_load.proofs.EachLemmas.{one_more, none_more}
use Rattle.dcr_load.proofs.graph.relations.Goals as goal
use Rattle.dcr_load.proofs.graph.relations.Goals.{in-Some+in_ok-push, in_default}

pub loop-t-preserved : goal.loop-t-preserved
loop-t-preserved c = elim c.match-relation.branch [
  | in-Some+in_ok-push w ↦ one_more c.loop-t.t (relation_at c.args.number) w.in-Some.relation _ _ (ap (λ v. v.items) w.relations-is ∙ w.in_ok-push.ensures.items) c.loop-t.invariant w.in-Some.ensures
  | in_default w ↦ none_more c.loop-t.t (relation_at c.args.number) _ _ (ap (λ v. v.items) w.relations-is) c.loop-t.invariant (sym w.in_default.is ∙ c.relation.ensures)
]
