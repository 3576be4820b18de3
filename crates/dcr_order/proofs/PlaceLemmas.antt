-- One place of a list is written.
use Rattle.std.proofs.Common.{◌≡◌, ◌≢◌, ℕ, List, set, Some, sym, ap, ◌∙◌, arith, length-set, get_or-set_same, get_or-set_other}
use Rattle.std.specs.Prelude.{slice_get}
use Rattle.std.proofs.lemmas.Option.{slice_get_within, slice_get-get_or, get_or_from_slice_get, same_Some}

-- what was written stands there
pub set_there : {X : Type 0} (xs : List X) (k : ℕ) (x y : X) → slice_get xs k ≡ Some y → slice_get (set xs k x) k ≡ Some x
set_there xs k x y was =
    let below = slice_get_within xs k y was in
    let room = length-set xs k x in
    slice_get-get_or (set xs k x) k x (omega arith) ∙ ap Some (get_or-set_same xs k x x below)

-- elsewhere stands what stood there
pub set_elsewhere : {X : Type 0} (xs : List X) (k i : ℕ) (x y : X) → i ≢ k → slice_get xs i ≡ Some y → slice_get (set xs k x) i ≡ Some y
set_elsewhere xs k i x y other was =
    let below = slice_get_within xs i y was in
    let room = length-set xs k x in
    slice_get-get_or (set xs k x) i y (omega arith) ∙ ap Some (get_or-set_other xs k i x y other ∙ get_or_from_slice_get xs i y y was)

-- two that stand at one place are one
pub one_there : {X : Type 0} (xs : List X) (k i : ℕ) (x y : X) → i ≡ k → slice_get xs k ≡ Some x → slice_get xs i ≡ Some y → y ≡ x
one_there xs k i x y same there too = same_Some y x (sym too ∙ ap (λ n. slice_get xs n) same ∙ there)
