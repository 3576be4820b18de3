-- Where what was served is put, by the number of its session.
use Rattle.std.specs.Prelude.{◌≡◌, ℕ, ◌<◌, ◌≤◌, List, [], Option, Some, slice_get, filter_map, Vec, vec_capacity}
use Rattle.std.specs.declared.alloc.Global.{Global}
use Rattle.dcr_serving.specs.declared.record.Record.{Record}

-- what stands in those places that have something
abbrev pub filled : {X : Type 0} → List (Option X) → List X
filled slots = filter_map (λ (slot : Option _). slot) slots

-- it is empty, and has room for so many
abbrev pub HasRoom : {X : Type 0} → ℕ → Vec X Global → Type 0
HasRoom room list = (list.items ≡ []) × (room ≤ vec_capacity list)

-- its end tells its session, which has one of so many places
pub record MayBePlaced {L N R : Type 0} (places : ℕ) (one : Record L N R) : Type 0 where
  pub session : one.end.session ≡ one.pass.session
  pub within : one.pass.session < places

-- what stands in a place has its number
abbrev pub AreInPlace : {L N R : Type 0} → List (Option (Record L N R)) → Type 0
AreInPlace slots = (i : ℕ) (one : Record _ _ _) → slice_get slots i ≡ Some (Some one) → one.pass.session ≡ i
