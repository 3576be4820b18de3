-- What a list of values must be to stand in a row, and what a change of one must leave.
use Rattle.std.specs.Prelude.{◌≡◌, ℕ, List, Some, slice_get}

-- each value belongs at the place of its number
abbrev pub StandInPlace : {T : Type 0} → (ℕ → T → Type 0) → List T → Type 0
StandInPlace {T} belongs values = (place : ℕ) (value : T) → slice_get values place ≡ Some value → belongs place value

-- a change, seen as the value before, its answer and the value after, leaves what belongs among what belongs
abbrev pub ChangesWithin : {T X : Type 0} → (T → Type 0) → (T → X → T → Type 0) → Type 0
ChangesWithin {T} {X} belongs changes = (before : T) (answer : X) (after : T) → belongs before → changes before answer after → belongs after

-- the answer is that of a change of a value that belongs
abbrev pub HasChanged : {T X : Type 0} → (T → Type 0) → (T → X → T → Type 0) → X → Type 0
HasChanged {T} {X} belongs changes answer = (before : T) × (after : T) × belongs before × changes before answer after
