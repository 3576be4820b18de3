use Rattle.std.proofs.Common.{◌≡◌, true, cond, Some, None, ap, sym, subst, ◌∙◌}
use Rattle.std.proofs.Common.{List, Bool, ◌<◌, length}
use Rattle.dcr_set.specs.EventSet.{has, first_in_both_without, first_in_three}
use Rattle.dcr_graph.specs.Rules.{Rules}
use Rattle.dcr_graph.proofs.CauseLemmas.{first_block}
use Rattle.dcr_graph.specs.declared.kind.Cause.TheVariants.{Excluded}
use Rattle.dcr_graph.specs.declared.marking.Marking.{Marking}
use Rattle.dcr_proj.specs.Rows.{GuardMasks}
use Rattle.dcr_site.specs.Seen.{StandsAt}
use Rattle.dcr_site.specs.SiteModel.{seen_of}
use Rattle.dcr_site.specs.Decision.{by_cause, decision}
use Rattle.dcr_site.proofs.SiteLemmas.{cause_by_masks, decided_by_masks, excluded_by_mark}
use Rattle.dcr_site.proofs.site.Site.decide.Goals as goal
use Rattle.dcr_site.proofs.site.Site.decide.Goals.{After-open_condition, After-pending_milestone}

-- the masks of what guards the event
abbrev row : (c : After-open_condition) → GuardMasks
row c = c.open_condition.ensures.0

-- the decision, told by these masks
masks : (c : After-open_condition) (G : Rules) (S : List Bool) (M : Marking) → StandsAt G S M c.args.self.now
    → by_cause (cause_by_masks (row c) c.self.inside.mark c.args.e) ≡ decision G S M c.args.e
masks c G S M at =
    decided_by_masks G S M (seen_of c.self.inside) (subst (StandsAt G S M) (sym c.self.view_is) at) c.args.e (row c)
    c.own.ensures.rooms.tracked_in (subst (λ site. c.args.e < length site.projection.own) (sym c.self.view_is) c.requires)
    (sym (c.contains.ensures ∙ ap (λ s. has s c.args.e) c.own.ensures.own) ∙ c.if-not-contains.false) c.open_condition.ensures.1

pending_told : (c : After-pending_milestone) → first_in_three c.open_condition.ensures.0.milestone c.self.inside.mark.included c.self.inside.mark.pending ≡ c.pending_milestone.result
pending_told c =
    let there = sym c.open_condition.ensures.1 ∙ c.pending_milestone.ensures.1 in
    let same : c.open_condition.ensures.0 ≡ c.pending_milestone.ensures.0 = cc in
    ap (λ (g : GuardMasks). first_in_three g.milestone c.self.inside.mark.included c.self.inside.mark.pending) same ∙ sym c.pending_milestone.ensures.2

included : (c : After-open_condition) → has c.self.inside.mark.included c.args.e ≡ true
included c = sym c.contains-2.ensures ∙ c.if-not-contains-2.false

pub returns-then-not-contains-2 : goal.returns-then-not-contains-2
returns-then-not-contains-2 c = λ G S M at.
    excluded_by_mark G S M (seen_of c.self.inside) (subst (StandsAt G S M) (sym c.self.view_is) at) c.args.e
    c.own.ensures.rooms.tracked_in (subst (λ site. c.args.e < length site.projection.own) (sym c.self.view_is) c.requires)
    (sym (c.contains.ensures ∙ ap (λ s. has s c.args.e) c.own.ensures.own) ∙ c.if-not-contains.false)
    (sym c.contains-2.ensures ∙ c.if-not-contains-2.true)

pub returns-in-Some : goal.returns-in-Some
returns-in-Some c = λ G S M at.
    let b = (goal.at.returns-in-Some c).After-open_condition in let g = row b in let m = c.self.inside.mark in
    sym (ap (λ t. by_cause (cond t (first_block (first_in_both_without g.condition m.included m.executed) (first_in_three g.milestone m.included m.pending)) (Some Excluded))) (included b)
    ∙ ap (λ o. by_cause (first_block o (first_in_three g.milestone m.included m.pending))) (sym c.open_condition.ensures.2 ∙ c.in-Some.is))
    ∙ masks b G S M at

pub returns-in-Some-pending_milestone : goal.returns-in-Some-pending_milestone
returns-in-Some-pending_milestone c = λ G S M at.
    let b = (goal.at.returns-in-Some-pending_milestone c).After-open_condition in let g = row b in let m = c.self.inside.mark in
    sym (ap (λ t. by_cause (cond t (first_block (first_in_both_without g.condition m.included m.executed) (first_in_three g.milestone m.included m.pending)) (Some Excluded))) (included b)
    ∙ ap (λ o. by_cause (first_block o (first_in_three g.milestone m.included m.pending))) (sym c.open_condition.ensures.2 ∙ c.in_default.is)
    ∙ ap (λ o. by_cause (first_block None o)) (pending_told (goal.at.returns-in-Some-pending_milestone c).After-pending_milestone ∙ c.in-Some-pending_milestone.is))
    ∙ masks b G S M at

pub returns : goal.returns
returns c = λ G S M at.
    let b = (goal.at.returns c).After-open_condition in let g = row b in let m = c.self.inside.mark in
    sym (ap (λ t. by_cause (cond t (first_block (first_in_both_without g.condition m.included m.executed) (first_in_three g.milestone m.included m.pending)) (Some Excluded))) (included b)
    ∙ ap (λ o. by_cause (first_block o (first_in_three g.milestone m.included m.pending))) (sym c.open_condition.ensures.2 ∙ c.in_default.is)
    ∙ ap (λ o. by_cause (first_block None o)) (pending_told (goal.at.returns c).After-pending_milestone ∙ c.in_default-pending_milestone.is))
    ∙ masks b G S M at
