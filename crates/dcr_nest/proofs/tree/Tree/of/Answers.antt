use Rattle.std.proofs.Common.{◌≤◌, length, ap, sym, subst, ◌∙◌, arith}
use Rattle.std.proofs.lemmas.List.{length-map}
use Rattle.dcr_nest.specs.Tree.{Parents, AreEarlier, atoms}
use Rattle.dcr_nest.specs.declared.node.Node.{Node}
use Rattle.dcr_nest.proofs.tree.Tree.of.Goals as goal

pub invariant_of-result : goal.invariant_of-result
invariant_of-result c =
    let nodes = c.args.nodes.now in
    let many = length-map nodes (λ (node : Node). node.parent) in
    let same = c.in_ok-parents.ensures in
    let P : Parents → Type 0 = λ parents. length (atoms parents) ≤ 1024 in
    record {
      most = (let long = ap (λ parents. length parents) same in omega arith);
      earlier = subst AreEarlier (sym same) c.requires.earlier;
      same_atoms = c.in_ok-atoms.ensures ∙ ap atoms (sym same);
      most_atoms = subst P (sym same) c.requires.most_atoms;
    }
