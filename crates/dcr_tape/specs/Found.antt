-- What is found while a tape is read.
use Rattle.std.specs.Prelude.{◌≡◌, ◌^◌, ◌≤◌, ◌+◌, ℕ, List, length, Result, MatchResult}
use Rattle.dcr_base.specs.Count.{Rose}
use Rattle.dcr_base.specs.Disk.{bytes_at}
use Rattle.dcr_tape.specs.Tape.{Part, HasHeader, HasRecords, IsShut, record_bytes, size_of}
use Rattle.dcr_tape.specs.Opening.{IsBad, IsBadAt, most_records}
use Rattle.dcr_tape.specs.declared.cause.TapeCause.{TapeCause}
use Rattle.dcr_tape.specs.declared.cause.TapeCause.TheVariants.{NotTape, OtherGraph, BadTape, Long, DiskFault, NoMemory}
use Rattle.dcr_tape.specs.declared.entry.TapeEntry.{TapeEntry}
use Rattle.dcr_tape.specs.declared.find.FoundPart.{FoundPart}
use Rattle.dcr_tape.specs.declared.record.Record.{Record}
use Rattle.dcr_tape.specs.declared.record.Record.TheVariants.{Shut, Bad, Sound}
use Rattle.dcr_tape.specs.declared.width.Width.{Width}
use Rattle.dcr_tape.specs.declared.width.Width.TheVariants.{Twelve}

abbrev pub part_found : FoundPart → Part
part_found found = record { start = found.start; width = found.width; digest = found.digest }

-- a part of width 12 begins at this offset
pub record IsPartAt (content : List ℕ) (start : ℕ) (found : FoundPart) : Type 0 where
  pub here : found.start ≡ start
  pub width : found.width ≡ Twelve
  pub near : start ≤ 2 ^ 62
  pub long : start + 65 ≤ length content
  pub header : HasHeader content start found.digest

-- no part of width 12 begins at this offset
abbrev pub HasNoPartAt : List ℕ → ℕ → Type 0
HasNoPartAt content start = (digest : List ℕ) → start ≤ 2 ^ 62 → start + 65 ≤ length content → HasHeader content start digest → ⊥

-- what stands at this offset, where the record with this number would begin
abbrev pub IsRecord : List ℕ → Width → ℕ → ℕ → Record → Type 0
IsRecord content width number at Shut = IsShut content at
IsRecord content width number at Bad = IsBad content width number at
IsRecord content width number at (Sound entry) = bytes_at content at (size_of width) ≡ record_bytes width number entry

-- why the reading of the records of a part ended with no list
abbrev pub EndsReading : List ℕ → Part → TapeCause → Type 0
EndsReading content part NotTape = ⊥
EndsReading content part (OtherGraph found) = ⊥
EndsReading content part (BadTape at) = (at ≤ most_records) × IsBadAt content part at
EndsReading content part Long = (entries : List TapeEntry) × (length entries ≡ most_records + 1) × HasRecords content part entries
EndsReading content part DiskFault = Unit {0}
EndsReading content part NoMemory = Unit {0}

-- the count of faults rises exactly where the cause is a fault
abbrev pub CountsFaultOf : TapeCause → ℕ → ℕ → Type 0
CountsFaultOf NotTape old new = new ≡ old
CountsFaultOf (OtherGraph found) old new = new ≡ old
CountsFaultOf (BadTape at) old new = new ≡ old
CountsFaultOf Long old new = new ≡ old
CountsFaultOf DiskFault old new = (old ≤ new) × Rose old new
CountsFaultOf NoMemory old new = new ≡ old

abbrev pub CountsCause : {T : Type 0} → Result T TapeCause → ℕ → ℕ → Type 0
CountsCause result old new = MatchResult result (λ _. new ≡ old) (λ cause. CountsFaultOf cause old new)
