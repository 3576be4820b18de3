-- What a seat of a row's table holds between two calls.
use Rattle.std.specs.Prelude.{◌≡◌, ℕ, ◌<◌, [], ◌∷◌, Option, Some, None}
use Rattle.atomic_table.specs.Table.{Me}
use Rattle.atomic_table.specs.Seated.{TableId}
use Rattle.dcr_lock.specs.declared.steps.SeatView.{SeatView}
use Rattle.dcr_lock.specs.Rule.{knows}

-- the table has a word and a slot of this number
abbrev pub HasPlace : TableId → ℕ → Type 0
HasPlace table place = (place < table.words) × (place < table.slots)

-- the seat holds no place, and knows that so many places, from 0 on, are empty
abbrev pub idle : {T : Type 0} → ℕ → Me (Option T) SeatView
idle empty = (knows [] empty, [])

-- the seat holds the place, and its slot is out with it, empty
abbrev pub holding : {T : Type 0} → ℕ → ℕ → Me (Option T) SeatView
holding place empty = (knows (place ∷ []) empty, (place, None) ∷ [])

-- the seat holds the place, and its slot is out with it, with a value that belongs there
abbrev pub HoldsValue : {T : Type 0} → (ℕ → T → Type 0) → ℕ → ℕ → Me (Option T) SeatView → Type 0
HoldsValue belongs place empty me = (value : _) × belongs place value × (me ≡ (knows (place ∷ []) empty, (place, Some value) ∷ []))
