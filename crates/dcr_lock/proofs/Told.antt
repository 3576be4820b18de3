-- What stands in the slot of the place that a seat holds.
use Rattle.std.proofs.Common.{◌≡◌, ℕ, List, [], ◌∷◌, sym, refl, ap, ◌∙◌, subst, Option}
use Rattle.atomic_table.specs.Table.{Me, rest}
use Rattle.dcr_lock.specs.declared.steps.SeatView.{SeatView}
use Rattle.dcr_lock.specs.Rule.{knows}
use Rattle.dcr_lock.specs.Seats.{holding}

-- the value in the slot that was taken last
pub stands : {T : Type 0} (view : SeatView) (p : ℕ) (x : Option T) (out : List (ℕ × Option T)) (me : Me (Option T) SeatView) → me ≡ (view, (p, x) ∷ out) → me.1 ≡ (p, x) ∷ rest me.1
stands {T} view p x out me is = subst (λ (m : Me (Option T) SeatView). m.1 ≡ (p, x) ∷ rest m.1) (sym is) refl

-- what a seat has once a value was laid into the slot of the place that it holds
pub laid : {T : Type 0} (p empty : ℕ) (x : Option T) (before after : Me (Option T) SeatView) → before ≡ holding p empty → after ≡ (before.0, (p, x) ∷ rest before.1)
    → after ≡ (knows (p ∷ []) empty, (p, x) ∷ [])
laid {T} p empty x before after held is = is ∙ ap (λ (m : Me (Option T) SeatView). (m.0, (p, x) ∷ rest m.1)) held
