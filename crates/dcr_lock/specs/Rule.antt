-- The rule of a row's table: what holds of its words, its slots and its seats' views between any two steps.
use Rattle.std.specs.Prelude.{◌≡◌, ℕ, ◌+◌, ◌<◌, ◌≤◌, ◌==◌, nat_lt, if◌then◌else◌, List, [], ◌∷◌, length, slice_index, Option, Some, None, ◌⊎◌}
use mathlib.Core.Option as maybe
use lib.ListN.{get_elem?}
use Rattle.atomic_table.specs.Table.{State}
use Rattle.dcr_lock.specs.declared.steps.SeatView.{SeatView}

-- a seat holds these places, and knows that all places below a number are empty
abbrev pub knows : List ℕ → ℕ → SeatView
knows held empty = record { held = held; empty = empty }

-- how often the place stands in the list
abbrev pub times : ℕ → List ℕ → ℕ
times p [] = 0
times p (q ∷ qs) = (if q == p then 1 else 0) + times p qs

-- the views' numbers, added up
abbrev pub total : (SeatView → ℕ) → List SeatView → ℕ
total f [] = 0
total f (v ∷ vs) = f v + total f vs

-- how many seats hold the place
abbrev pub holders : ℕ → List SeatView → ℕ
holders p views = total (λ v. times p v.held) views

-- 1 where the place is below the number, and else 0
abbrev pub is_below : ℕ → ℕ → ℕ
is_below p empty = if nat_lt p empty then 1 else 0

-- how many seats know that it is empty
abbrev pub knowers : ℕ → List SeatView → ℕ
knowers p views = total (λ v. is_below p v.empty) views

module _ {T : Type 0} (belongs : ℕ → T → Type 0) (s : State (Option T) SeatView) (p : ℕ) where
  -- the word is 0: the slot is at home with a value that belongs there, and no seat holds the place
  pub record IsFree : Type 0 where
    pub word : slice_index s.words p ≡ 0
    pub value : T
    pub home : get_elem? s.homes p ≡ maybe.some (maybe.some (Some value))
    pub fits : belongs p value
    pub unheld : holders p s.views ≡ 0
    pub unknown : knowers p s.views ≡ 0

  -- the word is 1: the slot is out, and one seat holds the place
  pub record IsTaken : Type 0 where
    pub word : slice_index s.words p ≡ 1
    pub out : get_elem? s.homes p ≡ maybe.some maybe.none
    pub held : holders p s.views ≡ 1
    pub unknown : knowers p s.views ≡ 0

  -- the word is 2: the slot is at home and empty, and no seat holds the place
  pub record IsEmpty : Type 0 where
    pub word : slice_index s.words p ≡ 2
    pub home : get_elem? s.homes p ≡ maybe.some (maybe.some None)
    pub unheld : holders p s.views ≡ 0
    pub known : knowers p s.views ≤ 1

  abbrev pub IsKept : Type 0
  IsKept = IsFree ⊎ (IsTaken ⊎ IsEmpty)

-- each place is free, taken or empty
pub record AreKept {T : Type 0} (belongs : ℕ → T → Type 0) (s : State (Option T) SeatView) : Type 0 where
  pub words : length s.words ≡ length s.homes
  pub each : (p : ℕ) → p < length s.homes → IsKept belongs s p
