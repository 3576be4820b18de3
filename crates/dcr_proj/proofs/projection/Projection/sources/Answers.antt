use Rattle.std.proofs.Common.{◌≡◌, ◌<◌, length, get_or, Some, None, refl, sym, ap, subst, ◌∙◌, arith}
use Rattle.dcr_set.specs.EventSet.{has, those}
use Rattle.dcr_graph.specs.Projection.{local_rules}
use Rattle.dcr_graph.specs.Rows as sets
use Rattle.dcr_graph.specs.declared.kind.Kind.TheVariants.{Condition, Milestone}
use Rattle.dcr_proj.specs.Rows.{guard_masks, AreGuards}
use Rattle.dcr_proj.proofs.ProjectionLemmas.{below_room, numbered_within, guards_read, kept_guards, kept_sources}
use Rattle.dcr_proj.proofs.projection.Projection.sources.Goals as goal
use Rattle.dcr_proj.proofs.projection.Projection.sources.Goals.{After-index-2}

pub index-requires-2 : goal.index-requires-2
index-requires-2 c =
    let below : c.args.e < length c.self.inside.own = below_room c.self.inside.own c.args.e (ap (λ P. has P.own c.args.e) c.self.view_is ∙ c.requires.owned) in
    let within = numbered_within c.self.inside c.self.invariant c.args.e c.from.result c.index.result.now (c.from.ensures ∙ c.e.view_is) c.index.ensures below in
    let all = c.self.inside.rows.ok.0 in let same = c.from-2.ensures in omega arith

read : (c : After-index-2) → AreGuards c.self.inside.masks.items c.index-2.result.now.guards × (get_or c.args.self.now.guards c.args.e None ≡ Some (guard_masks c.self.inside.masks.items c.index-2.result.now.guards))
read c = guards_read c.self.inside c.self.invariant c.args.self.now c.self.view_is c.args.e c.from.result c.index.result.now c.index-2.result.now (c.from.ensures ∙ c.e.view_is) c.index.ensures
    (λ k same. c.index-2.ensures ∙ ap (λ n. get_or c.self.inside.rows.items n c.index-2.result.now) (c.from-2.ensures ∙ sym same)) c.requires.owned

pub mask_at-requires-clause-number : goal.mask_at-requires-clause-number
mask_at-requires-clause-number c =
    subst (λ masks. c.index-2.result.now.guards.condition.number < length masks) (sym c.deref.ensures.value) (read (goal.at.mask_at-requires-clause-number c).After-index-2).0.condition.within

pub returns-in-Condition-clause-sources : goal.returns-in-Condition-clause-sources
returns-in-Condition-clause-sources c = λ G S same.
    let b = (goal.at.returns-in-Condition-clause-sources c).After-index-2 in
    c.mask_at.ensures.mask ∙ ap (λ masks. sets.row masks c.index-2.result.now.guards.condition.number) c.deref.ensures.value
    ∙ ap (λ row. row.condition) (kept_guards c.args.self.now G S same c.args.e (guard_masks c.self.inside.masks.items c.index-2.result.now.guards) c.requires.owned (read b).1)
    ∙ kept_sources c.args.self.now G S same c.args.e Condition c.requires.owned (λ _. refl)
    ∙ sym (ap (λ k. those G.atoms (λ a. (local_rules G S).related k a c.args.e)) c.in-Condition.is)

pub mask_at-requires-in-Milestone-clause-number : goal.mask_at-requires-in-Milestone-clause-number
mask_at-requires-in-Milestone-clause-number c =
    subst (λ masks. c.index-2.result.now.guards.milestone.number < length masks) (sym c.deref-in-Milestone.ensures.value) (read (goal.at.mask_at-requires-in-Milestone-clause-number c).After-index-2).0.milestone.within

pub returns-in-Milestone-clause-sources : goal.returns-in-Milestone-clause-sources
returns-in-Milestone-clause-sources c = λ G S same.
    let b = (goal.at.returns-in-Milestone-clause-sources c).After-index-2 in
    c.mask_at-in-Milestone.ensures.mask ∙ ap (λ masks. sets.row masks c.index-2.result.now.guards.milestone.number) c.deref-in-Milestone.ensures.value
    ∙ ap (λ row. row.milestone) (kept_guards c.args.self.now G S same c.args.e (guard_masks c.self.inside.masks.items c.index-2.result.now.guards) c.requires.owned (read b).1)
    ∙ kept_sources c.args.self.now G S same c.args.e Milestone c.requires.owned (λ _. refl)
    ∙ sym (ap (λ k. those G.atoms (λ a. (local_rules G S).related k a c.args.e)) c.in-Milestone.is)
