-- An event log as a list of records, and which of them is the first bad one.
use Rattle.std.specs.Prelude.{◌≡◌, ⊤, ℕ, ◌+◌, Bool, false, not, ◌&&◌, ◌==◌, List, [], ◌∷◌, length, codes, slice_get, slice_index_or, Option, Some, option_map, if◌then◌else◌}
use Rattle.std.specs.Option.{option_map_or}
use Rattle.std.specs.Str.{bytes_eq, is_utf8}
use Rattle.csv.specs.Reading.{default_config, records, strip_bom}
use Rattle.dcr_set.specs.Least.{least}
use Rattle.dcr_log.specs.Names.{is_trace_name}
use Rattle.dcr_log.specs.declared.stop.LogStop.{LogStop}
use Rattle.dcr_log.specs.declared.stop.LogStop.TheVariants.{Bad, NoMemory}

-- a record: its fields in order
abbrev pub Record : Type 0
Record = List (List ℕ)

-- The records of bytes as a table of CSV: commas between fields, double quotes round those that hold commas or ends of
-- lines. A byte order mark at the start and empty lines are none.
abbrev pub records_of : List ℕ → List Record
records_of bytes = records default_config (strip_bom bytes)

-- the field at this place is there, and is the text
abbrev pub has_field : Record → ℕ → List ℕ → Bool
has_field row place text = option_map_or (λ field. bytes_eq field text) (slice_get row place) false

-- the first record begins with the fields `case` and `event`
unfoldable pub is_header : Record → Bool
is_header row = has_field row 0 (codes "case") && has_field row 1 (codes "event")

-- a later one begins with the name of a trace and the text of an event
unfoldable pub is_event : Record → Bool
is_event row = option_map_or is_trace_name (slice_get row 0) false && option_map_or is_utf8 (slice_get row 1) false

-- a record behind a header of so many fields is bad: it has not as many, or it is no event's
abbrev pub is_bad_behind : ℕ → Record → Bool
is_bad_behind width row = not ((length row == width) && is_event row)

-- the first of these records that is bad behind such a header, by its place among them
unfoldable pub first_bad_behind : ℕ → List Record → Option ℕ
first_bad_behind width rows = least (length rows) (λ k. is_bad_behind width (slice_index_or rows k []))

-- the first bad record of a log, the header being record 0; a log without records is bad at 0
abbrev pub first_bad : List Record → Option ℕ
first_bad [] = Some 0
first_bad (header ∷ rows) = if is_header header then option_map (λ k. k + 1) (first_bad_behind (length header) rows) else Some 0

-- a refusal tells the first bad record; want of memory tells nothing
abbrev pub TellsBad : Option ℕ → LogStop → Type 0
TellsBad found (Bad row) = found ≡ Some row
TellsBad found NoMemory = ⊤
