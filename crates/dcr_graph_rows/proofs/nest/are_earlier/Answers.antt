use Rattle.std.proofs.Common.{◌≡◌, ℕ, ◌<◌, Some, None, inl, inr, ap, sym, ◌∙◌, arith}
use Rattle.std.proofs.lemmas.Bool.{cases_eq}
use Rattle.std.proofs.lemmas.Option.{none-some, same_Some}
use Rattle.dcr_nest.specs.Nest.{parents_of}
use Rattle.dcr_nest.specs.Tree.{parent_of}
use Rattle.dcr_nest.specs.declared.node.Node.{Node}
use Rattle.dcr_nest.proofs.MarkLemmas.{read_map}
use Rattle.dcr_graph_rows.proofs.nest.are_earlier.Goals as goal
use Rattle.dcr_graph_rows.proofs.nest.are_earlier.Goals.{in-Some+else-from-x, in_default}

pub loop-x-preserved : goal.loop-x-preserved
loop-x-preserved c =
    let nodes = c.args.nodes.now in
    let x = c.loop-x.x in
    let read : parent_of (parents_of nodes) x ≡ c.index-nodes-x.result.parent = read_map (λ (node : Node). node.parent) nodes x c.index-nodes-x.result None c.loop-x-test.true c.index-nodes-x.is in
    let here : (p : ℕ) → parent_of (parents_of nodes) x ≡ Some p → p < x = λ p told. elim c.match-node.branch [
      | in-Some+else-from-x w ↦ (
          let same : p ≡ w.in-Some.parent = same_Some p w.in-Some.parent (sym told ∙ read ∙ w.in-Some.is) in
          let from = w.from.ensures in
          let below = w.if-from-x.false in
          omega arith)
      | in_default w ↦ absurd (none-some p (sym (read ∙ w.in_default.is) ∙ told))
    ] in
    λ k p below told. elim (cases_eq k x) [
      | inl same ↦ (let less = here p (ap (parent_of (parents_of nodes)) (sym same) ∙ told) in omega arith)
      | inr other ↦ c.loop-x.invariant k p (omega arith) told
    ]
