-- The report of a run, line by line.
use Rattle.std.specs.Prelude.{ℕ, ◌+◌, List, [], ◌∷◌, ◌++◌, length, codes, decimal, flat_map, slice_range, Option, Some, None}
use Rattle.dcr_graph.specs.Cause.{waits}
use Rattle.dcr_graph.specs.declared.marking.Marking.{Marking}
use Rattle.dcr_graph.specs.declared.marking.SiteMark.{SiteMark}
use Rattle.dcr_nest.specs.Nest.{Nest, names_of, parents_of}
use Rattle.dcr_nest.specs.FlatRelation.{flat_relation, of_atoms}
use Rattle.dcr_nest.specs.declared.node.Version.{Version}
use Rattle.dcr_nest.specs.declared.node.Version.TheVariants.{V1, V2}
use Rattle.dcr_proj.specs.CoverValue.{Owners}
use Rattle.dcr_journal.specs.Run.{after, marks_at}
use Rattle.dcr_journal.specs.declared.call.Entry.{Entry}
use Rattle.dcr_journal.specs.declared.closed.Closed.{Closed}
use Rattle.dcr_line.specs.Line.{mark_text, entry_text, name_of}
use Rattle.dcr_graph_json.specs.Text.{graph_text}
use Rattle.dcr_cover_json.specs.Text.{cover_text}

-- a text with its line end
abbrev pub line : List ℕ → List ℕ
line text = text ++ 10 ∷ []

-- the lines one after the other, each with its line end
abbrev pub lines_text : List (List ℕ) → List ℕ
lines_text lines = flat_map line lines

-- those from a place on, up to another
abbrev pub text_between : List (List ℕ) → ℕ → ℕ → List ℕ
text_between lines from to = lines_text (slice_range lines from to)

-- the first line tells the version of the graph
abbrev pub version_text : Version → List ℕ
version_text V1 = codes "dcr 1"
version_text V2 = codes "dcr 2"

-- the graph, the cover, and the opening marking over all atoms, which have these names
abbrev pub case_lines : Nest → Owners → List (List ℕ) → Marking → List (List ℕ)
case_lines N C names M =
    (codes "graph " ++ graph_text N)
    ∷ (codes "cover " ++ cover_text names C)
    ∷ (codes "open " ++ mark_text names M.executed M.pending M.included)
    ∷ []

-- the version, and the case
abbrev pub head_lines : Nest → Owners → List (List ℕ) → Marking → List (List ℕ)
head_lines N C names M = version_text N.version ∷ case_lines N C names M

-- The lines of a case: what its runs begin with, whatever their sessions. The atoms have the names of their nodes.
abbrev pub digested_text : Nest → Owners → Marking → List ℕ
digested_text N C M = lines_text (case_lines N C (of_atoms (parents_of N.nodes) (names_of N.nodes)) M)

-- a line for each entry, the first at this place
unfoldable pub entry_lines : List (List ℕ) → List (List ℕ) → ℕ → List Entry → List (List ℕ)
entry_lines sites names place [] = []
entry_lines sites names place (entry ∷ entries) = entry_text sites names place entry ∷ entry_lines sites names (place + 1) entries

-- a site with its marks
abbrev pub site_text : List (List ℕ) → List ℕ → SiteMark → List ℕ
site_text names site mark = codes "site " ++ site ++ codes " " ++ mark_text names mark.executed mark.pending mark.included

-- a line for each site, with the marks of each in the same order
unfoldable pub site_lines : List (List ℕ) → List (List ℕ) → List SiteMark → List (List ℕ)
site_lines names [] marks = []
site_lines names (site ∷ sites) [] = []
site_lines names (site ∷ sites) (mark ∷ marks) = site_text names site mark ∷ site_lines names sites marks

-- accepting where nothing is waited for, else the atom that is
abbrev pub verdict_text : List (List ℕ) → Option ℕ → List ℕ
verdict_text names None = codes "verdict accepting"
verdict_text names (Some e) = codes "verdict waits " ++ name_of names e

-- the verdict, and how many entries there are
abbrev pub end_lines : List (List ℕ) → Option ℕ → ℕ → List (List ℕ)
end_lines names waited count = verdict_text names waited ∷ (codes "end " ++ decimal count) ∷ []

-- the lines of the entries J from M, after which the sites have these marks and this atom is waited for
abbrev pub report_lines : Nest → Owners → List (List ℕ) → Marking → List Entry → List SiteMark → Option ℕ → List (List ℕ)
report_lines N C names M J marks waited =
    head_lines N C names M
    ++ (entry_lines C.names names 0 J
    ++ (site_lines names C.names marks
    ++ end_lines names waited (length J)))

-- The report of the entries J from the opening marking M, over a nested graph and a cover: the atoms have the names
-- of their nodes, and the marks of the sites and the verdict are those of the marking after J.
unfoldable pub report_text : Nest → Owners → Marking → List Entry → List ℕ
report_text N C M J =
    let last : Marking = after (flat_relation N) M J in
    lines_text (report_lines N C (of_atoms (parents_of N.nodes) (names_of N.nodes)) M J (marks_at (flat_relation N) C.owned last) (waits (flat_relation N).atoms last))

-- the lines of what a closed run tells, where the atoms have these names
abbrev pub told_lines : Nest → Owners → List (List ℕ) → Closed → List (List ℕ)
told_lines N C names closed = report_lines N C names closed.opening closed.history.entries closed.marks closed.waits

-- What a closed run tells, in the lines of a report: its own marks and its own verdict. It is `report_text` where these are
-- those of the marking after its entries.
abbrev pub told_text : Nest → Owners → Closed → List ℕ
told_text N C closed = lines_text (told_lines N C (of_atoms (parents_of N.nodes) (names_of N.nodes)) closed)
