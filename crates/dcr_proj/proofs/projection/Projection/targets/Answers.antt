use Rattle.std.proofs.Common.{◌≡◌, ◌<◌, length, get_or, Some, None, sym, ap, subst, ◌∙◌, arith}
use Rattle.dcr_set.specs.EventSet.{has, those}
use Rattle.dcr_graph.specs.Projection.{local_rules}
use Rattle.dcr_graph.specs.Rows as sets
use Rattle.dcr_proj.specs.Rows.{effect_masks, AreEffects}
use Rattle.dcr_proj.proofs.ProjectionLemmas.{below_room, numbered_within, effects_read, kept_effects}
use Rattle.dcr_proj.proofs.projection.Projection.targets.Goals as goal
use Rattle.dcr_proj.proofs.projection.Projection.targets.Goals.{After-index-2}

pub index-requires-2 : goal.index-requires-2
index-requires-2 c =
    let below : c.args.e < length c.self.inside.own = (let inside = below_room c.self.inside.alphabet c.args.e (ap (λ P. has P.alphabet c.args.e) c.self.view_is ∙ c.requires.heard) in omega (arith, c.self.invariant.alphabet)) in
    let within = numbered_within c.self.inside c.self.invariant c.args.e c.from.result c.index.result.now (c.from.ensures ∙ c.e.view_is) c.index.ensures below in
    let all = c.self.inside.rows.ok.0 in let same = c.from-2.ensures in omega arith

read : (c : After-index-2) → AreEffects c.self.inside.masks.items c.index-2.result.now.effects × (get_or c.args.self.now.effects c.args.e None ≡ Some (effect_masks c.self.inside.masks.items c.index-2.result.now.effects))
read c = effects_read c.self.inside c.self.invariant c.args.self.now c.self.view_is c.args.e c.from.result c.index.result.now c.index-2.result.now (c.from.ensures ∙ c.e.view_is) c.index.ensures
    (λ k same. c.index-2.ensures ∙ ap (λ n. get_or c.self.inside.rows.items n c.index-2.result.now) (c.from-2.ensures ∙ sym same)) c.requires.heard

pub mask_at-requires-clause-number : goal.mask_at-requires-clause-number
mask_at-requires-clause-number c =
    subst (λ masks. c.index-2.result.now.effects.response.number < length masks) (sym c.deref.ensures.value) (read (goal.at.mask_at-requires-clause-number c).After-index-2).0.response.within

pub returns-in-Response-clause-targets : goal.returns-in-Response-clause-targets
returns-in-Response-clause-targets c = λ G S same.
    let b = (goal.at.returns-in-Response-clause-targets c).After-index-2 in
    c.mask_at.ensures.mask ∙ ap (λ masks. sets.row masks c.index-2.result.now.effects.response.number) c.deref.ensures.value
    ∙ ap (λ row. row.response) (kept_effects c.args.self.now G S same c.args.e (effect_masks c.self.inside.masks.items c.index-2.result.now.effects) c.requires.heard (read b).1)
    ∙ sym (ap (λ k. those G.atoms (λ b. (local_rules G S).related k c.args.e b)) c.in-Response.is)

pub mask_at-requires-in-Include-clause-number : goal.mask_at-requires-in-Include-clause-number
mask_at-requires-in-Include-clause-number c =
    subst (λ masks. c.index-2.result.now.effects.include.number < length masks) (sym c.deref-in-Include.ensures.value) (read (goal.at.mask_at-requires-in-Include-clause-number c).After-index-2).0.include.within

pub returns-in-Include-clause-targets : goal.returns-in-Include-clause-targets
returns-in-Include-clause-targets c = λ G S same.
    let b = (goal.at.returns-in-Include-clause-targets c).After-index-2 in
    c.mask_at-in-Include.ensures.mask ∙ ap (λ masks. sets.row masks c.index-2.result.now.effects.include.number) c.deref-in-Include.ensures.value
    ∙ ap (λ row. row.include) (kept_effects c.args.self.now G S same c.args.e (effect_masks c.self.inside.masks.items c.index-2.result.now.effects) c.requires.heard (read b).1)
    ∙ sym (ap (λ k. those G.atoms (λ b. (local_rules G S).related k c.args.e b)) c.in-Include.is)

pub mask_at-requires-in-Exclude-clause-number : goal.mask_at-requires-in-Exclude-clause-number
mask_at-requires-in-Exclude-clause-number c =
    subst (λ masks. c.index-2.result.now.effects.exclude.number < length masks) (sym c.deref-in-Exclude.ensures.value) (read (goal.at.mask_at-requires-in-Exclude-clause-number c).After-index-2).0.exclude.within

pub returns-in-Exclude-clause-targets : goal.returns-in-Exclude-clause-targets
returns-in-Exclude-clause-targets c = λ G S same.
    let b = (goal.at.returns-in-Exclude-clause-targets c).After-index-2 in
    c.mask_at-in-Exclude.ensures.mask ∙ ap (λ masks. sets.row masks c.index-2.result.now.effects.exclude.number) c.deref-in-Exclude.ensures.value
    ∙ ap (λ row. row.exclude) (kept_effects c.args.self.now G S same c.args.e (effect_masks c.self.inside.masks.items c.index-2.result.now.effects) c.requires.heard (read b).1)
    ∙ sym (ap (λ k. those G.atoms (λ b. (local_rules G S).related k c.args.e b)) c.in-Exclude.is)

pub mask_at-requires-in-Cancel-clause-number : goal.mask_at-requires-in-Cancel-clause-number
mask_at-requires-in-Cancel-clause-number c =
    subst (λ masks. c.index-2.result.now.effects.cancel.number < length masks) (sym c.deref-in-Cancel.ensures.value) (read (goal.at.mask_at-requires-in-Cancel-clause-number c).After-index-2).0.cancel.within

pub returns-in-Cancel-clause-targets : goal.returns-in-Cancel-clause-targets
returns-in-Cancel-clause-targets c = λ G S same.
    let b = (goal.at.returns-in-Cancel-clause-targets c).After-index-2 in
    c.mask_at-in-Cancel.ensures.mask ∙ ap (λ masks. sets.row masks c.index-2.result.now.effects.cancel.number) c.deref-in-Cancel.ensures.value
    ∙ ap (λ row. row.cancel) (kept_effects c.args.self.now G S same c.args.e (effect_masks c.self.inside.masks.items c.index-2.result.now.effects) c.requires.heard (read b).1)
    ∙ sym (ap (λ k. those G.atoms (λ b. (local_rules G S).related k c.args.e b)) c.in-Cancel.is)
