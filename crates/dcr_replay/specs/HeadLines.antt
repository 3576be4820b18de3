-- The four lines before the entries.
use Rattle.std.specs.Prelude.{◌≡◌, ◌<◌, ⊤, ℕ, List, [], ◌∷◌, ◌++◌, length, drop, codes, nat_eq, Option, Some, None, option_map, option_and_then, slice_get, MatchOption, if◌then◌else◌}
use Rattle.std.specs.List.{starts_with}
use Rattle.std.specs.Str.{bytes_eq}
use Rattle.dcr_graph.specs.declared.marking.Marking.{Marking}
use Rattle.dcr_graph.specs.Projection.{as_marking}
use Rattle.dcr_nest.specs.Nest.{Nest}
use Rattle.dcr_nest.specs.declared.node.Version.{Version}
use Rattle.dcr_nest.specs.declared.node.Version.TheVariants.{V1, V2}
use Rattle.dcr_proj.specs.CoverValue.{Owners}
use Rattle.dcr_line.specs.MarkLine.{mark_in}
use Rattle.dcr_report.specs.Report.{version_text}
use Rattle.dcr_cover_json.specs.Text.{cover_text}
use Rattle.dcr_graph_json.specs.Text.{graph_text}
use Rattle.dcr_graph_json.specs.Accepted.{IsGraphIn}
use Rattle.dcr_cover_json.specs.Accepted.{IsCoverIn}
use Rattle.dcr_graph_json.specs.Build.{atom_names}
use Rattle.dcr_format.specs.declared.json_value.TheConstants.{MAX_BYTES}
use Rattle.dcr_text.specs.Lines.{Line, whole}

-- what is behind a word that the text begins with
abbrev pub behind : List ℕ → List ℕ → Option (List ℕ)
behind word text = if starts_with nat_eq text word then Some (drop (length word) text) else None

-- the text of the first line, where there is one and it has its end
abbrev pub first_text : List Line → Option (List ℕ)
first_text lines = option_and_then whole (slice_get lines 0)

-- what the first line says behind a word
abbrev pub first_behind : List ℕ → List Line → Option (List ℕ)
first_behind word lines = option_and_then (behind word) (first_text lines)

-- the version that a text tells
abbrev pub version_of : List ℕ → Option Version
version_of text =
    if bytes_eq text (version_text V1) then Some V1 else (if bytes_eq text (version_text V2) then Some V2 else None)

-- the version that the first line tells
abbrev pub version_at : List Line → Option Version
version_at lines = option_and_then version_of (first_text lines)

-- behind the word the first line tells no text, or one that is longer than each canonical text
abbrev pub TellsNoText : List ℕ → List Line → Type 0
TellsNoText word lines = MatchOption (first_behind word lines) ⊤ (λ text. MAX_BYTES < length text)

-- the graph of this version that the first line tells, where it tells one
abbrev pub IsGraphAt : Version → List Line → Option Nest → Type 0
IsGraphAt version lines found = MatchOption (first_behind (codes "graph ") lines) (found ≡ None) (λ text. IsGraphIn version text found)

-- the cover of this graph that the first line tells, where it tells one
abbrev pub IsCoverAt : Nest → List Line → Option Owners → Type 0
IsCoverAt N lines found = MatchOption (first_behind (codes "cover ") lines) (found ≡ None) (λ text. IsCoverIn N text found)

-- the marking of the atoms with these names that the first line tells
abbrev pub opening_at : List (List ℕ) → List Line → Option Marking
opening_at names lines = option_map as_marking (option_and_then (mark_in names) (first_behind (codes "open ") lines))

-- the lines that tell this graph, and this cover of it
abbrev pub graph_line : Nest → List ℕ
graph_line N = codes "graph " ++ graph_text N

abbrev pub cover_line : Nest → Owners → List ℕ
cover_line N C = codes "cover " ++ cover_text (atom_names N) C

-- the texts of the first three lines
abbrev pub case_head : Nest → Owners → List (List ℕ)
case_head N C = version_text N.version ∷ graph_line N ∷ cover_line N C ∷ []
