use Rattle.std.proofs.Common.{◌≡◌, ℕ, List, length, ap, subst, ◌∙◌, rules, arith}
use Rattle.dcr_graph.specs.Names.{AreDistinct}
use Rattle.dcr_nest.specs.Nest.{names_of, parents_of}
use Rattle.dcr_nest.specs.Tree.{AreEarlier, atoms}
use Rattle.dcr_nest.specs.declared.node.Node.{Node}
use Rattle.dcr_graph_rows.proofs.nest.nested.Goals as goal

pub new-requires-2 : goal.new-requires-2
new-requires-2 c =
    let nodes = c.args.nodes.items in
    let len = c.args.nodes.ok.0 in
    let first = c.len.ensures in
    let told : c.in-Ok.atoms.items ≡ atoms (parents_of nodes) = c.in-Ok.ensures ∙ ap (λ (ns : List Node). atoms (parents_of ns)) c.deref-2.ensures.value in
    let count = ap length told in
    let held = c.in-Ok.atoms.ok.0 in
    let counted = c.len-2.ensures in
    let few = c.if-len-gt1024.false in
    let Distinct : List Node → Type 0 = λ ns. AreDistinct (names_of ns) in
    let Earlier : List Node → Type 0 = λ ns. AreEarlier (parents_of ns) in
    record {
      most_nodes = (let most = c.if-len-gt2048.false in omega arith);
      most_atoms = omega arith;
      most_relations = search rules;
      distinct = subst Distinct c.deref-else-not-are_earlier.ensures.value (c.are_distinct.ensures c.if-not-are_distinct.false);
      earlier = subst Earlier c.deref.ensures.value (c.are_earlier.ensures c.if-not-are_earlier.false);
      ends = search rules;
      cancels = search rules;
    }
