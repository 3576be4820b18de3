-- The order that the workers keep in the history.
use Rattle.std.specs.Prelude.{◌≡◌, ℕ, ◌<◌, ◌%◌, List, map, slice_get, Some}
use Rattle.std.specs.List.{All, Contains, range_with_len}
use Rattle.dcr_journal.specs.declared.call.Entry.{Entry}
use Rattle.dcr_turn.specs.PassValue.{PassValue, HasMadeAll}
use Rattle.dcr_work.specs.Dealing.{session_of}
use Rattle.dcr_work.specs.Working.{AreInTurn}

-- of two sessions of one worker every entry of the earlier one stands before every entry of the later one
abbrev pub IsInWorkerOrder : ℕ → List Entry → Type 0
IsInWorkerOrder workers J =
    (a b : ℕ) (x y : Entry) → slice_get J a ≡ Some x → slice_get J b ≡ Some y → x.session < y.session → x.session % workers ≡ y.session % workers → a < b

-- where the passes of all sessions are in turn, a history that has all that they made, and no entry of another session, is
-- in worker order
abbrev pub HistoryInOrder : Type 0
HistoryInOrder =
    (workers sessions : ℕ) (passes : List PassValue) (J : List Entry) → map session_of passes ≡ range_with_len 0 sessions → AreInTurn workers passes
    → All (λ pass. HasMadeAll pass J) passes → All (λ (entry : Entry). entry.session < sessions) J → IsInWorkerOrder workers J
