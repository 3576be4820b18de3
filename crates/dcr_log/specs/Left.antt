-- ---- for private clauses: what a reader of bytes in memory has left
use Rattle.std.specs.Prelude.{◌≡◌, ◌≢◌, ⊤, ℕ, ◌+◌, false, List, [], ◌∷◌, length, Option, Some, IfSome}
use Rattle.std.specs.Option.{option_map_or}
use Rattle.std.specs.Borrow.{Bor}
use Rattle.csv.specs.Machine.{ends_at_end}
use Rattle.csv.specs.Reading.{default_config, records_from, source_of, reader_config, reader_state, reader_trim, is_flexible, expected_len, Ready}
use Rattle.csv.specs.declared.error.ErrorKind.{ErrorKind}
use Rattle.csv.specs.declared.error.ErrorKind.TheVariants as kind
use Rattle.csv.specs.declared.reader.Reader.{Reader}
use Rattle.csv.specs.declared.reader.Trim.TheVariants as trim
use Rattle.dcr_log.specs.Records.{Record}
use Rattle.dcr_log.specs.declared.stop.LogStop.{LogStop}
use Rattle.dcr_log.specs.declared.stop.LogStop.TheVariants.{Bad, NoMemory}

-- a reader of bytes in memory
abbrev pub SliceReader : Type 0
SliceReader = Reader (Bor (List ℕ))

-- the bytes that it has left
abbrev pub source : SliceReader → Option (List ℕ)
source reader = source_of (λ s. Some s.now) reader

-- the records that it has left
unfoldable pub left_of : SliceReader → List Record
left_of reader = option_map_or (λ bytes. records_from default_config (length bytes + 1) (reader_state reader) bytes) (source reader) []

-- it reads on, with the default settings and no header row, and stands between two records
pub record IsGoing (reader : SliceReader) : Type 0 where
  pub plain : reader_trim reader ≡ trim.None
  pub ready : Ready reader
  pub even : is_flexible reader ≡ false
  pub settings : reader_config reader ≡ default_config
  pub between : ends_at_end (reader_state reader) ≡ false
  pub bytes : List ℕ
  pub known : source reader ≡ Some bytes

-- a record was read: the first of those that were left, of as many fields as the one before
pub record HasRead (old new : SliceReader) (row : Record) : Type 0 where
  pub going : IsGoing new
  pub first : left_of old ≡ row ∷ left_of new
  pub counted : expected_len new ≡ Some (length row)
  pub kept : IfSome (expected_len old) (λ n. expected_len new ≡ Some n)

-- the next record has another number of fields than this
pub record IsUneven (expected : Option ℕ) (left : List Record) : Type 0 where
  pub width : ℕ
  pub row : Record
  pub more : List Record
  pub wanted : expected ≡ Some width
  pub first : left ≡ row ∷ more
  pub other : length row ≢ width

-- a refusal of the record with this number; want of memory tells nothing
abbrev pub TellsUneven : ℕ → Option ℕ → List Record → LogStop → Type 0
TellsUneven number expected left (Bad row) = (row ≡ number) × IsUneven expected left
TellsUneven number expected left NoMemory = ⊤

-- what an error of the reader stops with: another number of fields than the first record's is the one that names a record
abbrev pub stop_by : ℕ → ErrorKind → LogStop
stop_by row (kind.UnequalLengths pos expected len) = Bad row
stop_by row (kind.Io e) = NoMemory
stop_by row (kind.Utf8 pos err) = NoMemory
stop_by row kind.OutOfMemory = NoMemory
stop_by row (kind.Serialize text) = NoMemory
stop_by row (kind.Deserialize pos err) = NoMemory
