use Rattle.std.proofs.Common.{false, not, length, get_or, ap, sym, ◌∙◌, arith}
use Rattle.std.proofs.lemmas.List.{length-map}
use Rattle.dcr_nest.specs.Nest.{parents_of}
use Rattle.dcr_nest.specs.Tree.{is_parent, atoms}
use Rattle.dcr_nest.specs.declared.node.Node.{Node}
use Rattle.dcr_nest.proofs.AtomLemmas.{picked, picked-ext}
use Rattle.dcr_nest.proofs.tree.atoms_of.Goals as goal

pub returns : goal.returns
unfolding atoms
returns c =
    let nodes = c.args.nodes.now in
    c.in_ok-found.ensures
    ∙ picked-ext (λ x. not (get_or c.parent_marks.result x false)) (λ x. not (is_parent (parents_of nodes) x)) (length nodes) (λ x below.
    ap not (c.parent_marks.ensures.marks x (omega arith)))
    ∙ ap (picked (λ x. not (is_parent (parents_of nodes) x))) (sym (length-map nodes (λ (node : Node). node.parent)))
