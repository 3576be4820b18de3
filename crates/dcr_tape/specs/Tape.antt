-- The bytes of a tape, and which executions they stand for.
use Rattle.std.specs.Prelude.{◌≡◌, ◌≢◌, ℕ, ◌+◌, ◌*◌, ◌/◌, ◌%◌, ◌^◌, ◌≤◌, List, [], ◌∷◌, ◌++◌, length, codes, replicate}
use Rattle.std.specs.Int.{w32, w64, to_be_bytes, from_be_bytes}
use Rattle.dcr_base.specs.Disk.{bytes_at}
use Rattle.dcr_tape.specs.declared.entry.TapeEntry.{TapeEntry}
use Rattle.dcr_tape.specs.declared.width.Width.{Width}
use Rattle.dcr_tape.specs.declared.width.Width.TheVariants.{Eight, Twelve}

-- the first seven bytes of a header, and the version behind them
abbrev pub name_text : ℕ → List ℕ
name_text version = codes "DCRTAPE" ++ version ∷ []

abbrev pub zeros : ℕ → List ℕ
zeros count = replicate count 0

-- a number of two bytes, the higher byte first
abbrev pub two_bytes : ℕ → List ℕ
two_bytes n = n / 256 ∷ n % 256 ∷ []

-- how many bytes a record has
abbrev pub size_of : Width → ℕ
size_of Eight = 8
size_of Twelve = 12

-- where the last three bytes of a record begin
abbrev pub tail_of : Width → ℕ
tail_of Eight = 5
tail_of Twelve = 9

-- A record: its gate, which is open; the event and the site; where it has twelve bytes its own number; three zeros.
abbrev pub record_bytes : Width → ℕ → TapeEntry → List ℕ
record_bytes Eight number entry = 1 ∷ two_bytes entry.event ++ (two_bytes entry.site ++ zeros 3)
record_bytes Twelve number entry = 1 ∷ two_bytes entry.event ++ (two_bytes entry.site ++ (to_be_bytes w32 number ++ zeros 3))

-- what stands behind the gate of a record of twelve bytes, and then a gate that isn't open
abbrev pub payload_bytes : ℕ → TapeEntry → List ℕ
payload_bytes number entry = two_bytes entry.event ++ (two_bytes entry.site ++ (to_be_bytes w32 number ++ zeros 4))

-- the records of these entries, one after the other, the first of which has this number
abbrev pub records_from : Width → ℕ → List TapeEntry → List ℕ
records_from width number [] = []
records_from width number (entry ∷ entries) = record_bytes width number entry ++ records_from width (number + 1) entries

-- the bytes before the records of a part of width 12
abbrev pub header_bytes : List ℕ → List ℕ
header_bytes digest = name_text 2 ++ (digest ++ zeros 24)

-- a part of width 12 whole: its header, its records, and a gate that isn't open
abbrev pub part_bytes : List ℕ → List TapeEntry → List ℕ
part_bytes digest entries = header_bytes digest ++ (records_from Twelve 0 entries ++ 0 ∷ [])

-- ---- the part in force

-- a part of a tape: where it begins, the width of its records, and the digest of its case
pub record Part : Type 0 where
  pub start : ℕ
  pub width : Width
  pub digest : List ℕ

-- the header of a part of width 12 stands at this offset
pub record HasHeader (content : List ℕ) (start : ℕ) (digest : List ℕ) : Type 0 where
  pub version : bytes_at content start 8 ≡ name_text 2
  pub names : bytes_at content (start + 8) 32 ≡ digest
  pub blank : bytes_at content (start + 40) 24 ≡ zeros 24

-- the content begins as a tape of version 1 does
pub record HasOldHeader (content : List ℕ) : Type 0 where
  pub version : bytes_at content 0 8 ≡ name_text 1
  pub blank : bytes_at content 49 15 ≡ zeros 15

-- a tape of version 2 begins with its part
pub record IsNewPart (content : List ℕ) (part : Part) : Type 0 where
  pub start : part.start ≡ 0
  pub width : part.width ≡ Twelve
  pub header : HasHeader content 0 part.digest

-- so does one of version 1 that was not renewed: byte 40 isn't 1
pub record IsOldPart (content : List ℕ) (part : Part) : Type 0 where
  pub start : part.start ≡ 0
  pub width : part.width ≡ Eight
  pub header : HasOldHeader content
  pub digest : bytes_at content 8 32 ≡ part.digest
  pub switch : ℕ
  pub off : bytes_at content 40 1 ≡ switch ∷ []
  pub not_on : switch ≢ 1

-- where byte 40 is 1, bytes 41 to 48 say where the part that was renewed begins
pub record IsRenewedPart (content : List ℕ) (part : Part) : Type 0 where
  pub width : part.width ≡ Twelve
  pub old_header : HasOldHeader content
  pub on : bytes_at content 40 1 ≡ 1 ∷ []
  pub start : from_be_bytes w64 (bytes_at content 41 8) ≡ part.start
  pub near : part.start ≤ 2 ^ 62
  pub header : HasHeader content part.start part.digest

pub data Begins (content : List ℕ) (part : Part) : Type 0 where
  as_new : IsNewPart content part → Begins content part
  as_old : IsOldPart content part → Begins content part
  as_renewed : IsRenewedPart content part → Begins content part

-- the part that the tape consists of; its header and a gate are there
pub record InForce (content : List ℕ) (part : Part) : Type 0 where
  pub begins : Begins content part
  pub long : part.start + 65 ≤ length content

-- ---- what a content stands for

-- where record `count` of a part begins
abbrev pub record_at : Part → ℕ → ℕ
record_at part count = part.start + 64 + size_of part.width * count

-- the part begins with sound records of these entries, the gate of each open
abbrev pub HasRecords : List ℕ → Part → List TapeEntry → Type 0
HasRecords content part entries = bytes_at content (part.start + 64) (size_of part.width * length entries) ≡ records_from part.width 0 entries

-- there is a gate at this offset, and it isn't open: no byte but 1 opens it
pub record IsShut (content : List ℕ) (at : ℕ) : Type 0 where
  pub gate : ℕ
  pub there : bytes_at content at 1 ≡ gate ∷ []
  pub not_open : gate ≢ 1

-- the part in force has the records of these entries, and then a gate that isn't open
pub record Holds (content : List ℕ) (part : Part) (entries : List TapeEntry) : Type 0 where
  pub in_force : InForce content part
  pub has_records : HasRecords content part entries
  pub shut : IsShut content (record_at part (length entries))

-- the content stands for these entries of the case with this digest
pub record StandsFor (digest : List ℕ) (entries : List TapeEntry) (content : List ℕ) : Type 0 where
  pub part : Part
  pub same_case : part.digest ≡ digest
  pub holds : Holds content part entries
