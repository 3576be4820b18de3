use Rattle.std.proofs.Common.{◌≡◌, ◌<◌, true, false, length, get_or, Some, None, refl, ap, sym, ◌∙◌, arith}
use Rattle.std.proofs.lemmas.List.{get_or-replicate, length-set, length-map}
use Rattle.dcr_nest.specs.Nest.{parents_of}
use Rattle.dcr_nest.specs.Tree.{parent_of}
use Rattle.dcr_nest.specs.declared.node.Node.{Node}
use Rattle.dcr_nest.proofs.MarkLemmas.{read_map, parent_marked, none_marked}
use Rattle.dcr_nest.proofs.tree.parent_marks.Goals as goal
use Rattle.dcr_nest.proofs.tree.parent_marks.Goals.{in-Some, in_default}

pub loop-node-init : goal.loop-node-init
loop-node-init c = record { len = refl; marks = λ x below. get_or-replicate 2048 x false false below }

pub bounds-marks-from : goal.bounds-marks-from
bounds-marks-from c =
    let nodes = c.args.nodes.now in
    let i = c.loop-node.node-index in
    let here : parent_of (parents_of nodes) i ≡ Some c.in-Some.parent =
    read_map (λ (node : Node). node.parent) nodes i c.node-item.result None c.loop-node-test.true c.node-item.is ∙ c.in-Some.is in
    let before = c.requires.earlier i c.in-Some.parent here in
    omega arith

pub loop-node-preserved : goal.loop-node-preserved
loop-node-preserved c =
    let nodes = c.args.nodes.now in
    let i = c.loop-node.node-index in
    let within : i < length (parents_of nodes) = (let many = length-map nodes (λ (node : Node). node.parent) in omega arith) in
    let here : parent_of (parents_of nodes) i ≡ c.node-item.result.parent =
    read_map (λ (node : Node). node.parent) nodes i c.node-item.result None c.loop-node-test.true c.node-item.is in
    let inv = c.loop-node.invariant in
    elim c.match-node.branch [
      | in-Some w ↦ (
          let parent : parent_of (parents_of nodes) i ≡ Some w.from.result = here ∙ w.in-Some.is ∙ ap Some (sym w.from.ensures) in
          let earlier : w.from.result < i = c.requires.earlier i w.from.result parent in
          record {
            len = ap (λ marks. length marks) w.marks-is ∙ length-set c.loop-node.marks w.from.result true ∙ inv.len;
            marks = λ x below.
                ap (λ marks. get_or marks x false) w.marks-is
                ∙ parent_marked (parents_of nodes) i x c.loop-node.marks w.from.result within parent (let many = inv.len in omega arith) (inv.marks x below);
          })
      | in_default w ↦ record {
        len = ap (λ marks. length marks) w.marks-is ∙ inv.len;
        marks = λ x below.
            ap (λ marks. get_or marks x false) w.marks-is ∙ inv.marks x below
            ∙ none_marked (parents_of nodes) i x within (here ∙ w.in_default.is);
      }
    ]
