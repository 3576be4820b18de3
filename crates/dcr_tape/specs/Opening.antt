-- Why a content is refused as a tape, and what is found in one that isn't.
use Rattle.std.specs.Prelude.{◌≡◌, ◌≢◌, ◌⊎◌, ℕ, ◌+◌, ◌<◌, ◌≤◌, IsTrue, List, [], ◌∷◌, length}
use Rattle.std.specs.Int.{w32, to_be_bytes}
use Rattle.dcr_base.specs.Disk.{DiskView, IsSteady, LeavesOnly, bytes_at}
use Rattle.dcr_tape.specs.Tape.{Part, InForce, HasRecords, Holds, part_bytes, record_at, size_of, tail_of, zeros}
use Rattle.dcr_tape.specs.declared.entry.TapeEntry.{TapeEntry}
use Rattle.dcr_tape.specs.declared.cause.TapeCause.{TapeCause}
use Rattle.dcr_tape.specs.declared.cause.TapeCause.TheVariants.{NotTape, OtherGraph, BadTape, Long, DiskFault, NoMemory}
use Rattle.dcr_tape.specs.declared.width.Width.{Width}
use Rattle.dcr_tape.specs.declared.width.Width.TheVariants.{Twelve}

-- the most records of a tape at opening
abbrev pub most_records : ℕ
most_records = 1000000

-- how a record with this number, whose gate is open, is unsound
pub data IsUnsound (content : List ℕ) (width : Width) (number at : ℕ) : Type 0 where
  -- the end of the content cuts it
  is_cut : length content < at + size_of width → IsUnsound content width number at
  -- one of its last three bytes isn't zero
  is_soiled : bytes_at content (at + tail_of width) 3 ≢ zeros 3 → IsUnsound content width number at
  -- it names another number
  is_misnumbered : width ≡ Twelve → bytes_at content (at + 5) 4 ≢ to_be_bytes w32 number → IsUnsound content width number at

-- the gate at this offset is missing, or it is open and its record isn't sound
abbrev pub IsBad : List ℕ → Width → ℕ → ℕ → Type 0
IsBad content width number at = (length content ≤ at) ⊎ ((bytes_at content at 1 ≡ 1 ∷ []) × IsUnsound content width number at)

-- all records before this number are sound and their gates open, and this one is bad
pub record IsBadAt (content : List ℕ) (part : Part) (number : ℕ) : Type 0 where
  pub before : List TapeEntry
  pub count : length before ≡ number
  pub has_records : HasRecords content part before
  pub bad : IsBad content part.width number (record_at part number)

-- a part in force of the case with this digest
pub record IsOfCase (digest content : List ℕ) (part : Part) : Type 0 where
  pub in_force : InForce content part
  pub same_case : part.digest ≡ digest

-- The cause stands in this content, for the case with this digest. A fault and want of memory say nothing of it.
abbrev pub IsCause : List ℕ → List ℕ → TapeCause → Type 0
IsCause digest content NotTape = (part : Part) → InForce content part → ⊥
IsCause digest content (OtherGraph found) = (part : Part) × InForce content part × (part.digest ≡ found) × (found ≢ digest)
IsCause digest content (BadTape at) = (part : Part) × IsOfCase digest content part × (at ≤ most_records) × IsBadAt content part at
IsCause digest content Long = (part : Part) × IsOfCase digest content part
    × ((entries : List TapeEntry) × (length entries ≡ most_records + 1) × HasRecords content part entries)
IsCause digest content DiskFault = Unit {0}
IsCause digest content NoMemory = Unit {0}

-- the cause is one that the content shows
abbrev pub IsShown : TapeCause → Type 0
IsShown NotTape = Unit {0}
IsShown (OtherGraph found) = Unit {0}
IsShown (BadTape at) = Unit {0}
IsShown Long = Unit {0}
IsShown DiskFault = ⊥
IsShown NoMemory = ⊥

-- the making of a tape may be stopped at this content: it has no more bytes than a tape of no entries
abbrev pub IsUnmade : List ℕ → Type 0
IsUnmade content = length content ≤ 65

-- What an opening of a disk as the tape of the case with this digest did, where it succeeded: the content stands for
-- these entries by this part. An empty disk was made a tape of no entries; else nothing was changed.
pub record Opened (old new : DiskView) (digest : List ℕ) (part : Part) (entries : List TapeEntry) : Type 0 where
  pub before : List ℕ
  pub was : IsTrue old.told → old.content ≡ before
  pub told : IsTrue new.told
  pub made : before ≡ [] → new.content ≡ part_bytes digest []
  pub kept : before ≢ [] → new.content ≡ before
  pub same_case : part.digest ≡ digest
  pub holds : Holds new.content part entries
  pub few : length entries ≤ most_records
  -- the disk is honest where it was
  pub honest : new.honest ≡ old.honest
  -- nothing is pending
  pub steady : IsTrue old.honest → IsSteady new
  -- reading leaves what a crash might have left before
  pub any_moment : IsTrue old.honest → before ≢ [] → LeavesOnly old new old.may_leave
  -- and making at most as many bytes as were to be written
  pub making : IsSteady old → before ≡ [] → LeavesOnly old new IsUnmade

-- the same where it failed, for this cause: a content that isn't empty is as it was
pub record Refused (old new : DiskView) (digest : List ℕ) (cause : TapeCause) : Type 0 where
  pub before : List ℕ
  pub was : IsTrue old.told → old.content ≡ before
  pub stands : IsCause digest before cause
  pub shown : IsShown cause → IsTrue new.told × (before ≢ []) × (new.content ≡ before)
  pub kept : before ≢ [] → IsTrue old.told → IsTrue new.told × (new.content ≡ before)
  pub any_moment : IsTrue old.honest → before ≢ [] → LeavesOnly old new old.may_leave
  pub steady : cause ≢ DiskFault → IsSteady old → IsSteady new
  pub making : IsSteady old → before ≡ [] → LeavesOnly old new IsUnmade
