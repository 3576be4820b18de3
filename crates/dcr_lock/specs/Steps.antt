-- What each kind of step tells the seat that takes it: of the step, the seat before, the word found and the seat after.
-- A seat is its view, and the slots that are out with it, each with its value; the slot taken last stands first.
use Rattle.std.specs.Prelude.{◌≡◌, ℕ, ◌+◌, ◌<◌, ◌==◌, ◌&&◌, if◌then◌else◌, MatchBool, [], ◌∷◌, drop, Option, Some, None}
use Rattle.atomic_table.specs.Table.{Step, Me, rest}
use Rattle.dcr_lock.specs.declared.steps.SeatView.{SeatView}
use Rattle.dcr_lock.specs.Rule.{knows}

-- how many places, from 0 on, are known to be empty once the place is given back with this word
abbrev pub empty_then : ℕ → ℕ → ℕ → ℕ
empty_then word place empty = if (word == 2) && (empty == place) then place + 1 else empty

module _ {T : Type 0} where
  -- new seat: a load. It holds no place
  abbrev pub Sits : Step (Option T) → Me (Option T) SeatView → ℕ → Me (Option T) SeatView → Type 0
  Sits s before found after = after ≡ (knows [] 0, [])

  -- fill: the word goes from 2 to 1. The seat takes the slot, which is empty, and holds the place. It knows one empty place less
  abbrev pub Fills : Step (Option T) → Me (Option T) SeatView → ℕ → Me (Option T) SeatView → Type 0
  Fills s before found after = after ≡ (knows (s.word ∷ before.0.held) s.word, (s.word, None) ∷ before.1)

  -- take: the word goes from 0 to 1. The seat takes the slot, in which stands a value that belongs there, and holds the place
  abbrev pub Takes : (ℕ → T → Type 0) → Step (Option T) → Me (Option T) SeatView → Me (Option T) SeatView → Type 0
  Takes belongs s before after =
      (value : T) × belongs s.word value × (after ≡ (knows (s.word ∷ before.0.held) before.0.empty, (s.word, Some value) ∷ before.1))

  -- miss: the word was 1 or 2, and nothing changes
  abbrev pub Misses : Me (Option T) SeatView → ℕ → Me (Option T) SeatView → Type 0
  Misses before found after = (found < 3) × (after ≡ before)

  -- take where the word found is 0, and else miss
  abbrev pub TakesOrMisses : (ℕ → T → Type 0) → Step (Option T) → Me (Option T) SeatView → ℕ → Me (Option T) SeatView → Type 0
  TakesOrMisses belongs s before found after = MatchBool (found == 0) (Takes belongs s before after) (Misses before found after)

  -- give back: the word goes from 1 to 0, with a value in the slot, or to 2, with none. The slot that was taken last is no longer out
  -- with the seat, and the seat no longer holds its place
  abbrev pub GivesBack : Step (Option T) → Me (Option T) SeatView → ℕ → Me (Option T) SeatView → Type 0
  GivesBack s before found after = after ≡ (knows (drop 1 before.0.held) (empty_then s.first s.word before.0.empty), rest before.1)
