use Rattle.std.proofs.Common.{◌≡◌, ℕ, ◌<◌, List, [], length, get_or, map, ap, sym, ◌∙◌, arith}
use Rattle.std.proofs.lemmas.List.{length-map}
use Rattle.std.proofs.lemmas.List.Elements.{All-same}
use Rattle.std.proofs.lemmas.Result.{IfOk-weaker}
use Rattle.dcr_nest.specs.FlatRelation.{of_atoms}
use Rattle.dcr_nest.specs.Nest.{names_of, parents_of}
use Rattle.dcr_nest.specs.Tree.{Parents, atoms}
use Rattle.dcr_nest.specs.declared.node.Node.{Node}
use Rattle.dcr_nest.proofs.AtomLemmas.{atoms-within}
use Rattle.dcr_nest.proofs.nested.Nested.atom_names.Goals as goal

pub names-requires : goal.names-requires
names-requires c =
    let all = c.deref-2.result.now in
    let parents = c.in_ok-tree.tree in
    let many : length parents ≡ length all = ap (λ (ps : Parents). length ps) (c.in_ok-tree.ensures ∙ ap parents_of (c.deref.ensures.value ∙ sym c.deref-2.ensures.value)) ∙ length-map all (λ (node : Node). node.parent) in
    All-same (λ x. x < length all) c.atoms.result.now (atoms parents) c.atoms.ensures.atoms (λ k d within. let below = atoms-within parents k d within in omega arith)

pub returns : goal.returns
returns c =
    let nodes : c.self.inside.nodes.items ≡ c.args.self.now.nodes = ap (λ N. N.nodes) c.self.view_is in
    let tree : c.in_ok-tree.tree ≡ parents_of c.args.self.now.nodes = c.in_ok-tree.ensures ∙ ap parents_of (c.deref.ensures.value ∙ nodes) in
    IfOk-weaker c.names.result _ _ (λ names made.
    made
    ∙ ap (λ (xs : List ℕ). map (λ x. get_or (names_of c.deref-2.result.now) x []) xs) (c.atoms.ensures.atoms ∙ ap atoms tree)
    ∙ ap (λ (all : List Node). of_atoms (parents_of c.args.self.now.nodes) (names_of all)) (c.deref-2.ensures.value ∙ nodes)) c.names.ensures
