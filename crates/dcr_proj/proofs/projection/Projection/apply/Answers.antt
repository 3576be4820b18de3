use Rattle.std.proofs.Common.{◌≡◌, ◌<◌, true, cond, length, get_or, Some, None, ap, sym, subst, ◌∙◌, arith}
use Rattle.dcr_set.specs.EventSet.{has, with_event, without_event, union, difference}
use Rattle.dcr_graph.specs.Rows as sets
use Rattle.dcr_proj.specs.Masks.{IsPlace}
use Rattle.dcr_proj.specs.Rows.{effect_masks, AreEffects}
use Rattle.dcr_proj.proofs.PlaceLemmas.{marks_made}
use Rattle.dcr_proj.proofs.ProjectionLemmas.{below_room, numbered_within, effects_read}
use Rattle.dcr_proj.proofs.projection.Projection.apply.Goals as goal
use Rattle.dcr_proj.proofs.projection.Projection.apply.Goals.{After-index-row, then-contains, else-contains}

pub index-row-requires : goal.index-row-requires
index-row-requires c =
    let below : c.args.e < length c.self.inside.own = (let inside = below_room c.self.inside.alphabet c.args.e (ap (λ P. has P.alphabet c.args.e) c.self.view_is ∙ c.requires.heard) in omega (arith, c.self.invariant.alphabet)) in
    let within = numbered_within c.self.inside c.self.invariant c.args.e c.from.result c.index.result.now (c.from.ensures ∙ c.e.view_is) c.index.ensures below in
    let all = c.self.inside.rows.ok.0 in let same = c.from-2.ensures in omega arith

read : (c : After-index-row) → AreEffects c.self.inside.masks.items c.index-row.result.now.effects × (get_or c.args.self.now.effects c.args.e None ≡ Some (effect_masks c.self.inside.masks.items c.index-row.result.now.effects))
read c = effects_read c.self.inside c.self.invariant c.args.self.now c.self.view_is c.args.e c.from.result c.index.result.now c.index-row.result.now (c.from.ensures ∙ c.e.view_is) c.index.ensures
    (λ k same. c.index-row.ensures ∙ ap (λ n. get_or c.self.inside.rows.items n c.index-row.result.now) (c.from-2.ensures ∙ sym same)) c.requires.heard

pub take_mask-requires-clause-place : goal.take_mask-requires-clause-place
take_mask-requires-clause-place c = subst (λ masks. IsPlace masks c.index-row.result.now.effects.cancel) (sym c.deref.ensures.value) (read (goal.at.take_mask-requires-clause-place c).After-index-row).0.cancel

pub add_mask-requires-clause-place : goal.add_mask-requires-clause-place
add_mask-requires-clause-place c = subst (λ masks. IsPlace masks c.index-row.result.now.effects.response) (sym c.deref-2.ensures.value) (read (goal.at.add_mask-requires-clause-place c).After-index-row).0.response

pub add_mask-requires-2-clause-place : goal.add_mask-requires-2-clause-place
add_mask-requires-2-clause-place c = subst (λ masks. IsPlace masks c.index-row.result.now.effects.include) (sym c.deref-3.ensures.value) (read (goal.at.add_mask-requires-2-clause-place c).After-index-row).0.include

pub take_mask-requires-2-clause-place : goal.take_mask-requires-2-clause-place
take_mask-requires-2-clause-place c = subst (λ masks. IsPlace masks c.index-row.result.now.effects.exclude) (sym c.deref-4.ensures.value) (read (goal.at.take_mask-requires-2-clause-place c).After-index-row).0.exclude

pub returns-clause-marks : goal.returns-clause-marks
returns-clause-marks c =
    let masks = c.self.inside.masks.items in let row = c.index-row.result.now.effects in let m = c.args.mark.now in let e = c.args.e in
    let tracked = has c.args.self.now.tracked_ex e in
    let told : c.contains.result ≡ tracked = c.contains.ensures ∙ ap (λ P. has P.tracked_ex e) c.self.view_is in
    let start : (c.if-contains.mark.executed ≡ cond tracked (with_event m.executed e) m.executed) × (c.if-contains.mark.pending ≡ m.pending) × (c.if-contains.mark.included ≡ m.included) = elim c.if-contains.branch [
      | then-contains w ↦ (
        ap (λ k. k.executed) w.mark-is ∙ w.insert.ensures.added ∙ ap (λ t. cond t (with_event m.executed e) m.executed) (sym (sym told ∙ w.if-contains.true)),
        ap (λ k. k.pending) w.mark-is,
        ap (λ k. k.included) w.mark-is,
      )
      | else-contains w ↦ (
        ap (λ k. k.executed) w.mark-is ∙ ap (λ t. cond t (with_event m.executed e) m.executed) (sym (sym told ∙ w.if-contains.false)),
        ap (λ k. k.pending) w.mark-is,
        ap (λ k. k.included) w.mark-is,
      )
    ] in (
      effect_masks masks row,
      (read (goal.at.returns-clause-marks c).After-index-row).1,
      marks_made (effect_masks masks row) tracked m e _ _ _ _ _ _ start.0
          (c.remove.ensures.removed ∙ ap (λ s. without_event s e) start.1)
          (c.take_mask.ensures.left ∙ ap (λ l. difference c.remove.new.self (sets.row l row.cancel.number)) c.deref.ensures.value)
          (c.add_mask.ensures.joined ∙ ap (λ l. union c.take_mask.new.set (sets.row l row.response.number)) c.deref-2.ensures.value)
          (c.add_mask-2.ensures.joined ∙ ap (λ l. union c.if-contains.mark.included (sets.row l row.include.number)) c.deref-3.ensures.value ∙ ap (λ s. union s (sets.row masks row.include.number)) start.2)
          (c.take_mask-2.ensures.left ∙ ap (λ l. difference c.add_mask-2.new.set (sets.row l row.exclude.number)) c.deref-4.ensures.value),
    )
