use Rattle.std.proofs.Common.{length, get_or, ap, arith}
use Rattle.dcr_nest.proofs.AtomLemmas.{atoms-within}
use Rattle.dcr_nest.proofs.tree.Tree.all_below.Goals as goal

pub own-requires-clause-nodes : goal.own-requires-clause-nodes
own-requires-clause-nodes c = λ k d within.
    let nodes = c.atoms.ensures.atoms in
    let inside = atoms-within c.args.self.now k d (omega (arith, ap (λ xs. length xs) nodes, within)) in
    omega (arith, inside, ap (λ xs. get_or xs k d) nodes, ap (λ ps. length ps) c.parents.ensures.parents)
