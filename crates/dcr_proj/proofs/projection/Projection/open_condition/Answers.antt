use Rattle.std.proofs.Common.{◌≡◌, ◌<◌, true, length, get_or, Some, None, ap, sym, subst, ◌∙◌, arith}
use Rattle.dcr_set.specs.EventSet.{has, first_in_both_without}
use Rattle.dcr_graph.specs.Rows as sets
use Rattle.dcr_proj.specs.Masks.{IsPlace}
use Rattle.dcr_proj.specs.Rows.{guard_masks, AreGuards}
use Rattle.dcr_proj.proofs.ProjectionLemmas.{below_room, numbered_within, guards_read}
use Rattle.dcr_proj.proofs.projection.Projection.open_condition.Goals as goal
use Rattle.dcr_proj.proofs.projection.Projection.open_condition.Goals.{After-index-row}

pub index-row-requires : goal.index-row-requires
index-row-requires c =
    let below : c.args.e < length c.self.inside.own = below_room c.self.inside.own c.args.e (ap (λ P. has P.own c.args.e) c.self.view_is ∙ c.requires.owned) in
    let within = numbered_within c.self.inside c.self.invariant c.args.e c.from.result c.index.result.now (c.from.ensures ∙ c.e.view_is) c.index.ensures below in
    let all = c.self.inside.rows.ok.0 in let same = c.from-2.ensures in omega arith

read : (c : After-index-row) → AreGuards c.self.inside.masks.items c.index-row.result.now.guards × (get_or c.args.self.now.guards c.args.e None ≡ Some (guard_masks c.self.inside.masks.items c.index-row.result.now.guards))
read c = guards_read c.self.inside c.self.invariant c.args.self.now c.self.view_is c.args.e c.from.result c.index.result.now c.index-row.result.now (c.from.ensures ∙ c.e.view_is) c.index.ensures
    (λ k same. c.index-row.ensures ∙ ap (λ n. get_or c.self.inside.rows.items n c.index-row.result.now) (c.from-2.ensures ∙ sym same)) c.requires.owned

pub first_open-requires-clause-place : goal.first_open-requires-clause-place
first_open-requires-clause-place c =
    subst (λ masks. IsPlace masks c.index-row.result.now.guards.condition) (sym c.deref.ensures.value) (read (goal.at.first_open-requires-clause-place c).After-index-row).0.condition

pub returns : goal.returns
returns c = (
  guard_masks c.self.inside.masks.items c.index-row.result.now.guards,
  (read (goal.at.returns c).After-index-row).1,
  c.first_open.ensures ∙ ap (λ masks. first_in_both_without (sets.row masks c.index-row.result.now.guards.condition.number) c.args.mark.now.included c.args.mark.now.executed) c.deref.ensures.value,
)
