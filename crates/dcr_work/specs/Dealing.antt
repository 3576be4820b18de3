-- How the passes of the sessions are dealt out to the workers.
use Rattle.std.specs.Prelude.{◌≡◌, ℕ, zero, suc, ◌<◌, ◌≤◌, ◌-◌, ◌%◌, ◌==◌, Bool, List, [], ◌∷◌, ◌++◌, length, map, filter, slice_index_or, Vec, vec_len, vec_capacity}
use Rattle.std.specs.List.{All}
use Rattle.std.specs.declared.alloc.Global.{Global}
use Rattle.dcr_turn.specs.PassValue.{PassValue}

-- the passes that a worker has
abbrev pub Hand : Type 0
Hand = Vec PassValue Global

abbrev pub session_of : PassValue → ℕ
session_of pass = pass.session

-- the last of n numbers from 0, so many, the last one first
abbrev pub down : ℕ → ℕ → List ℕ
down n zero = []
down n (suc i) = down n i ++ (n - suc i) ∷ []

-- whether the session is the worker's: its number, divided by the number of workers, leaves the worker's
abbrev pub is_of : ℕ → ℕ → ℕ → Bool
is_of workers worker session = session % workers == worker

-- each worker has the passes of its own of the last sessions, so many of n, the last one first
abbrev pub AreHands : ℕ → ℕ → ℕ → List Hand → Type 0
AreHands workers n dealt hands =
    (worker : ℕ) (d : Hand) → worker < length hands → map session_of (slice_index_or hands worker d).items ≡ filter (is_of workers worker) (down n dealt)

-- the pass is that of one of so many sessions, and has seen and done nothing
pub record IsNew (sessions : ℕ) (pass : PassValue) : Type 0 where
  pub seen : pass.front ≡ []
  pub made : pass.made ≡ 0
  pub session : pass.session < sessions

pub record IsEmptyHand (room : ℕ) (hand : Hand) : Type 0 where
  pub none : hand.items ≡ []
  pub room_left : room ≤ vec_capacity hand

-- of n new passes so many were dealt out
pub record AreDealt (workers n dealt : ℕ) (hands : List Hand) : Type 0 where
  pub sessions : AreHands workers n dealt hands
  pub new : All (λ (hand : Hand). All (IsNew n) hand.items) hands
