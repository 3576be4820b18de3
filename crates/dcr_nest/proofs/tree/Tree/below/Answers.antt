use Rattle.std.proofs.Common.{◌≡◌, ◌<◌, length, map, ap, ◌∙◌, arith}
use Rattle.std.specs.List.{range_with_len}
use Rattle.std.proofs.lemmas.List.Elements.{All-same, All-weaker}
use Rattle.std.proofs.lemmas.List.FromFn.{length-map-range_with_len}
use Rattle.dcr_nest.specs.Tree.{is_at_or_below, atoms, atoms_below}
use Rattle.dcr_nest.proofs.AtomLemmas.{atoms-within}
use Rattle.dcr_nest.proofs.MarkLemmas.{atoms_marked}
use Rattle.dcr_nest.proofs.tree.Tree.below.Goals as goal

pub marked-requires-clause-nodes : goal.marked-requires-clause-nodes
marked-requires-clause-nodes c =
    let parents = c.self.inside.parents.items in
    let many : length c.deref-3.result.now ≡ length parents =
    ap (λ marks. length marks) (c.deref-3.ensures.value ∙ c.in_ok-marks.ensures)
    ∙ length-map-range_with_len (λ x. is_at_or_below c.deref.result.now x c.args.node) 0 (length c.deref.result.now) ∙ ap (λ ps. length ps) c.deref.ensures.value in
    All-same (λ x. x < length c.deref-3.result.now) c.deref-2.result.now (atoms parents) (c.deref-2.ensures.value ∙ c.self.invariant.same_atoms)
    (All-weaker (λ x. x < length parents) (λ x. x < length c.deref-3.result.now) (λ x below. omega arith) (atoms parents) (atoms-within parents))

pub returns : goal.returns
returns c =
    let parents = c.self.inside.parents.items in
    c.marked.ensures
    ∙ atoms_marked parents c.args.node c.deref-2.result.now c.deref-3.result.now (c.deref-2.ensures.value ∙ c.self.invariant.same_atoms)
    (c.deref-3.ensures.value ∙ c.in_ok-marks.ensures ∙ ap (λ ps. map (λ x. is_at_or_below ps x c.args.node) (range_with_len 0 (length ps))) c.deref.ensures.value)
    ∙ ap (λ ps. atoms_below ps c.args.node) c.self.view_is
