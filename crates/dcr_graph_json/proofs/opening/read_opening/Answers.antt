use Rattle.std.proofs.Common.{◌≡◌, ◌<◌, List, ℕ, length, sym, ◌∙◌, subst, arith}
use Rattle.std.proofs.lemmas.List.{length-map}
use Rattle.std.specs.List.{All}
use Rattle.dcr_nest.specs.Nest.{parents_of}
use Rattle.dcr_nest.specs.Tree.{atoms}
use Rattle.dcr_nest.specs.declared.node.Node.{Node}
use Rattle.dcr_nest.proofs.AtomLemmas.{atoms-within}
use Rattle.dcr_graph_json.proofs.opening.read_opening.Goals as goal

-- the atoms are events
events_among : (nodes : List Node) (xs : List ℕ) (n : ℕ) → n ≡ length nodes → xs ≡ atoms (parents_of nodes) → All (λ x. x < n) xs
events_among nodes xs n many same =
    let P : List ℕ → Type 0 = All (λ x. x < n) in
    subst P (sym same) (λ k d l. let below = atoms-within (parents_of nodes) k d l in omega (arith, length-map nodes (λ (node : Node). node.parent)))

pub marked-requires-clause-nodes : goal.marked-requires-clause-nodes
marked-requires-clause-nodes c = events_among c.args.nodes.now _ _ c.requires.events (c.deref.ensures.value ∙ c.in-Ok.ensures)

pub marked-requires-2-clause-nodes : goal.marked-requires-2-clause-nodes
marked-requires-2-clause-nodes c = events_among c.args.nodes.now _ _ c.requires.events (c.deref-2.ensures.value ∙ c.in-Ok.ensures)

pub marked-requires-3-clause-nodes : goal.marked-requires-3-clause-nodes
marked-requires-3-clause-nodes c = events_among c.args.nodes.now _ _ c.requires.events (c.deref-3.ensures.value ∙ c.in-Ok.ensures)
