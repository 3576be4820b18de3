-- What was read, and what was written of a text that was due.
use Rattle.std.specs.Prelude.{◌≡◌, ◌≢◌, ℕ, ◌+◌, ◌≤◌, List, [], drop, Option, Some, None, IfSome}
use Rattle.std.specs.Io.KnownBytes.{IsAtEnd}
use Rattle.dcr_base.specs.Count.{Fails, Rose}
use Rattle.dcr_base.specs.Side.{Adds, Side, Stopped}
use Rattle.dcr_base.specs.declared.reading.ReadStop.{ReadStop}
use Rattle.dcr_base.specs.declared.reading.ReadStop.TheVariants as read
use Rattle.dcr_base.specs.declared.status.Status.{Status}
use Rattle.dcr_base.specs.declared.status.Status.TheVariants.{Done, Refused, ReadFault, WriteFault, NoMemory}
use Rattle.dcr_format.specs.declared.stop.CaseStop.TheVariants as stop
use Rattle.dcr_app.specs.Refusal.{case_line}
use Rattle.dcr_app.specs.declared.command.Command.{Command}
use Rattle.dcr_app.specs.declared.command.Command.TheVariants.{Read}
use Rattle.dcr_app.specs.declared.command.Reading.{Reading}
use Rattle.dcr_app.specs.declared.command.Reading.TheVariants.{Replay}

-- ---- counts of faults

-- a fault was counted exactly where this says that one came
abbrev pub CountsWhere : Type 0 → ℕ → ℕ → Type 0
CountsWhere failed old new = (old ≤ new) × (failed → Rose old new) × ((failed → ⊥) → new ≡ old)

-- ---- what was read

-- the bytes are those that the input had left, where it tells them
abbrev pub WereLeft : Option (List ℕ) → List ℕ → Type 0
WereLeft left bytes = IfSome left (λ told. told ≡ bytes)

-- of what was left the first bytes were read, at most so many
abbrev pub TookAtMost : ℕ → Option (List ℕ) → Option (List ℕ) → Type 0
TookAtMost most before after = IfSome before (λ left. (k : ℕ) × (k ≤ most) × (after ≡ Some (drop k left)))

-- the most bytes of an input
abbrev pub most_bytes : Reading → ℕ
most_bytes Replay = 268435456
most_bytes reading = 16777216

-- the same of a command, where it reads its input, to the end
abbrev pub limit_in : Option Command → Option ℕ
limit_in (Some (Read reading)) = Some (most_bytes reading)
limit_in command = None

-- What becomes of the input, where `left` is what it had left at entry and `rest` what it has left now. Within a limit one byte more
-- is taken at most, and with `Done` all; a read has failed exactly where the status says so. Without one nothing is read.
abbrev pub LeavesInput : Option ℕ → Side → Side → Type 0 → Status → Type 0
LeavesInput None left rest has_ended status = (rest ≡ left) × (status ≢ ReadFault)
LeavesInput (Some limit) left rest has_ended status =
    TookAtMost (limit + 1) left.bytes rest.bytes × (status ≡ Done → has_ended × IsAtEnd rest.bytes) × CountsWhere (status ≡ ReadFault) left.faults rest.faults

-- ---- what was written

-- What the output took where a text was due with one status, and this was the status of the end: all of it with that
-- status, and a front and not all of it where the output failed or memory ran out. No other status comes.
pub data Wrote (due : Status) (text : List ℕ) (status : Status) (had took : Side) : Type 0 where
  wrote_all : status ≡ due → Adds text had took → Wrote due text status had took
  write_failed : status ≡ WriteFault → Stopped text had took → Fails had.faults took.faults → Wrote due text status had took
  write_starved : status ≡ NoMemory → Stopped text had took → took.faults ≡ had.faults → Wrote due text status had took

-- memory ran out before anything was written
abbrev pub IsStarved : Status → Side → Side → Type 0
IsStarved status had took = (status ≡ NoMemory) × Adds [] had took

-- what is told of an input that was not read to its end
abbrev pub IsUnread : ReadStop → Status → Side → Side → Type 0
IsUnread read.TooLong status had took = (status ≢ NoMemory) × Wrote Refused (case_line stop.TooLong) status had took
IsUnread read.ReadFault status had took = (status ≡ ReadFault) × Adds [] had took
IsUnread read.NoMemory status had took = IsStarved status had took
