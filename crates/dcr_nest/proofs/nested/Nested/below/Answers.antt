use Rattle.std.proofs.Common.{length, ap, ◌∙◌}
use Rattle.std.proofs.lemmas.Result.{IfOk-weaker}
use Rattle.dcr_set.specs.EventSet.{Set}
use Rattle.dcr_nest.specs.Nest.{parents_of}
use Rattle.dcr_nest.specs.Tree.{Parents, atoms}
use Rattle.dcr_nest.proofs.FlatLemmas.{room-atoms_below}
use Rattle.dcr_nest.proofs.nested.Nested.below.Goals as goal

pub returns-clause-room : goal.returns-clause-room
returns-clause-room c =
    IfOk-weaker c.below-2.result _ _ (λ set below.
    ap (λ (s : Set). length s) below ∙ room-atoms_below c.in_ok-of.field-0 c.args.node
    ∙ ap (λ (parents : Parents). length (atoms parents)) (c.in_ok-of.ensures ∙ ap parents_of (c.deref.ensures.value ∙ ap (λ N. N.nodes) c.self.view_is))) c.below-2.ensures
