-- What the workers of a cluster have done with the passes of the sessions.
use Rattle.std.specs.Prelude.{◌≡◌, ℕ, ◌<◌, ◌≤◌, ◌%◌, false, List, [], ◌++◌, length, map, take, slice_index_or, Option}
use Rattle.std.specs.List.{All, AllPairs, Contains, range_with_len}
use Rattle.dcr_journal.specs.Run.{calls_of}
use Rattle.dcr_journal.specs.declared.call.Call.{Call}
use Rattle.dcr_journal.specs.declared.call.Entry.{Entry}
use Rattle.dcr_tape.specs.declared.tape.Store.{Store}
use Rattle.dcr_turn.specs.Covers.{is_by}
use Rattle.dcr_turn.specs.PassValue.{PassValue}
use Rattle.dcr_cell.specs.ClusterId.{ClusterId, IsRunOf}
use Rattle.dcr_cluster.specs.Calls.{Shows}
use Rattle.dcr_cluster.specs.declared.halt.Halt.{Halt}
use Rattle.dcr_work.specs.Dealing.{Hand, session_of}

-- The calls that the pass has made are the first ones of its session's, in order, each once, and what it has seen is a run
-- of the graph. Where they are not all, the entries seen show why no call came after them.
pub record HasWorked {D : Type 0} (c : ClusterId) (first : Option (Store D)) (capacity : ℕ) (calls : List Call) (pass : PassValue) : Type 0 where
  pub within : pass.made ≤ length calls
  pub in_order : calls_of pass.session pass.front ≡ take pass.made calls
  pub legal : IsRunOf c pass.front
  pub ended : pass.made < length calls → (halt : Halt) × Shows first capacity pass.front halt

-- the pass had seen these entries, none of which is its session's, before it made its first call
pub record BeganWith (J : List Entry) (pass : PassValue) : Type 0 where
  pub rest : List Entry
  pub whole : J ++ rest ≡ pass.front
  pub none_before : All (λ entry. is_by pass.session entry ≡ false) J

-- the same of a pass and the list of its session
abbrev pub HasWorkedOf : {D : Type 0} → ClusterId → Option (Store D) → ℕ → List (List Call) → PassValue → Type 0
HasWorkedOf c first capacity sessions pass = HasWorked c first capacity (slice_index_or sessions pass.session []) pass

-- The passes of one worker, its first session last, have worked: each began with what those of its sessions before had
-- seen at their end.
pub record HaveWorked {D : Type 0} (c : ClusterId) (first : Option (Store D)) (capacity : ℕ) (sessions : List (List Call)) (before after : List PassValue) : Type 0 where
  pub same_sessions : map session_of after ≡ map session_of before
  pub each : All (HasWorkedOf c first capacity sessions) after
  pub in_turn : AllPairs (λ (later earlier : PassValue). BeganWith earlier.front later) after

-- each worker's passes have worked
abbrev pub AllHands : {D : Type 0} → ClusterId → Option (Store D) → ℕ → List (List Call) → List Hand → List Hand → Type 0
AllHands c first capacity sessions before after =
    (worker : ℕ) (d : Hand) → worker < length before → HaveWorked c first capacity sessions (slice_index_or before worker d).items (slice_index_or after worker d).items

-- Of two sessions of one worker the later one's pass had seen all that the earlier one's has, and no entry of its own among
-- it, before its first call.
abbrev pub AreInTurn : ℕ → List PassValue → Type 0
AreInTurn workers passes =
    (earlier later : PassValue) → Contains passes earlier → Contains passes later → earlier.session < later.session → earlier.session % workers ≡ later.session % workers
    → BeganWith earlier.front later

-- The passes are those of all sessions, in order, and have worked, those of one worker in turn.
pub record AllWorked {D : Type 0} (c : ClusterId) (first : Option (Store D)) (capacity workers : ℕ) (sessions : List (List Call)) (passes : List PassValue) : Type 0 where
  pub in_order : map session_of passes ≡ range_with_len 0 (length sessions)
  pub each : All (HasWorkedOf c first capacity sessions) passes
  pub in_turn : AreInTurn workers passes
