use Rattle.std.proofs.Common.{◌≡◌, ℕ, ◌<◌, false, not, length, get_or, Some, ap, sym, ◌∙◌, arith}
use Rattle.std.proofs.lemmas.List.{length-map}
use Rattle.dcr_nest.specs.Nest.{parents_of}
use Rattle.dcr_nest.specs.Tree.{is_parent}
use Rattle.dcr_nest.specs.declared.node.Node.{Node}
use Rattle.dcr_nest.proofs.AtomLemmas.{picked-ext, number-none, number-some}
use Rattle.dcr_nest.proofs.nested.Nested.atom.Goals as goal
use Rattle.dcr_nest.proofs.nested.Nested.atom.Goals.{After-from}

-- the mark of a node says whether it is a parent
marked : (c : After-from) (x : ℕ) → x < 2048 → get_or c.parent_marks-is_parent.result x false ≡ is_parent (parents_of c.args.self.now.nodes) x
marked c x below =
    c.parent_marks-is_parent.ensures.marks x below
    ∙ ap (λ nodes. is_parent (parents_of nodes) x) (c.deref.ensures.value ∙ ap (λ N. N.nodes) c.self.view_is)

pub returns-then-is_parent-from : goal.returns-then-is_parent-from
returns-then-is_parent-from c =
    let many = c.self.invariant.most_nodes in
    let same = ap (λ N. length N.nodes) c.self.view_is in
    sym (number-none (parents_of c.args.self.now.nodes) c.args.node (
    sym (marked (goal.at.returns-then-is_parent-from c).After-from c.args.node (let r = c.requires in omega arith))
    ∙ ap (λ x. get_or c.parent_marks-is_parent.result x false) (sym c.from.ensures) ∙ c.if-is_parent-from.true))

pub returns : goal.returns
returns c =
    let many = c.self.invariant.most_nodes in
    let same = ap (λ N. length N.nodes) c.self.view_is in
    let r = c.requires in
    let tell = marked (goal.at.returns c).After-from in
    let parents = parents_of c.args.self.now.nodes in
    let within : c.args.node < length parents = (let long = length-map c.args.self.now.nodes (λ (node : Node). node.parent) in omega arith) in
    ap Some (c.atoms_before.ensures ∙ ap (λ xs. length xs) (picked-ext (λ x. not (get_or c.parent_marks-is_parent.result x false)) (λ x. not (is_parent parents x)) c.args.node
    (λ x below. ap not (tell x (omega arith)))))
    ∙ sym (number-some parents c.args.node within (
    sym (tell c.args.node (omega arith)) ∙ ap (λ x. get_or c.parent_marks-is_parent.result x false) (sym c.from.ensures) ∙ c.if-is_parent-from.false))
