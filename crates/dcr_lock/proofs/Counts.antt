-- How the numbers of the views add up when one view is replaced, or a new one comes.
use Rattle.std.proofs.Common.{◌≡◌, ℕ, zero, suc, ◌+◌, ◌≤◌, List, [], ◌∷◌, ◌++◌, set, sym, ap, arith}
use mathlib.Core.Option.{some, some-injective, some-ne-none}
use lib.ListN.{get_elem?}
use Rattle.dcr_lock.specs.declared.steps.SeatView.{SeatView}
use Rattle.dcr_lock.specs.Rule.{total}

pub total-set : (f : SeatView → ℕ) (views : List SeatView) (id : ℕ) (v w : SeatView) → get_elem? views id ≡ some v → total f (set views id w) + f v ≡ total f views + f w
total-set f [] id v w at = absurd (some-ne-none v (sym at))
total-set f (u ∷ us) zero v w at = let e = ap f (some-injective u v at) in omega arith
total-set f (u ∷ us) (suc id) v w at = let e = total-set f us id v w at in omega arith

pub total-push : (f : SeatView → ℕ) (views : List SeatView) (w : SeatView) → total f (views ++ w ∷ []) ≡ total f views + f w
total-push f [] w = omega arith
total-push f (u ∷ us) w = let e = total-push f us w in omega arith

-- a view's own number is part of the sum
pub total-has : (f : SeatView → ℕ) (views : List SeatView) (id : ℕ) (v : SeatView) → get_elem? views id ≡ some v → f v ≤ total f views
total-has f [] id v at = absurd (some-ne-none v (sym at))
total-has f (u ∷ us) zero v at = let e = ap f (some-injective u v at) in omega arith
total-has f (u ∷ us) (suc id) v at = let e = total-has f us id v at in omega arith
