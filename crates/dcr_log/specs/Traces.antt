-- The traces that the records of a log spell.
use Rattle.std.specs.Prelude.{ℕ, not, List, [], ◌∷◌, map, filter, slice_index_or}
use Rattle.std.specs.Str.{bytes_eq}
use Rattle.dcr_log.specs.Records.{Record}
use Rattle.dcr_log.specs.declared.trace.Trace.{Trace}

-- the trace's name and the event's text in a record
abbrev pub name_in : Record → List ℕ
name_in row = slice_index_or row 0 []

abbrev pub event_in : Record → List ℕ
event_in row = slice_index_or row 1 []

-- each text once, in order of first appearance
unfoldable pub first_appearances : List (List ℕ) → List (List ℕ)
first_appearances [] = []
first_appearances (text ∷ texts) = text ∷ filter (λ other. not (bytes_eq text other)) (first_appearances texts)

-- the events of the records with this trace's name, in order
unfoldable pub events_named : List Record → List ℕ → List (List ℕ)
events_named rows name = map event_in (filter (λ row. bytes_eq name (name_in row)) rows)

-- the trace of this name
abbrev pub trace_named : List Record → List ℕ → Trace
trace_named rows name = record { name = name; events = events_named rows name }

-- the traces of the records behind the header: one for each name, in order of first appearance, with its events in order
unfoldable pub traces_of : List Record → List Trace
traces_of rows = map (trace_named rows) (first_appearances (map name_in rows))
