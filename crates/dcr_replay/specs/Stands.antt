-- What a run under check keeps of the entries that were read, and what the lines that were read tell of a verdict.
use Rattle.std.specs.Prelude.{◌≡◌, ℕ, ◌+◌, ◌<◌, ◌≤◌, Bool, true, false, List, [], ◌∷◌, ◌++◌, drop, length, map, slice_get, slice_index_or, take, Option, Some, None}
use Rattle.std.specs.List.{All}
use Rattle.dcr_graph.specs.Cause.{waits}
use Rattle.dcr_graph.specs.GraphValue.{Flat, rules_of}
use Rattle.dcr_nest.specs.FlatRelation.{IsFlattening}
use Rattle.dcr_nest.specs.Nest.{Nest}
use Rattle.dcr_proj.specs.CoverValue.{IsCover, Owners}
use Rattle.dcr_journal.specs.Run.{HasNoFault, made_by, marks_at}
use Rattle.dcr_journal.specs.declared.call.Entry.{Entry}
use Rattle.dcr_line.specs.DirectoryModel.{named}
use Rattle.dcr_replay.specs.Canonical.{HaveNoLineEnd}
use Rattle.dcr_cover_json.specs.Accepted.{IsAcceptedCover}
use Rattle.dcr_graph_json.specs.Accepted.{IsAcceptedGraph}
use Rattle.dcr_replay.specs.Canonical.{MeanOne}
use Rattle.dcr_report.specs.Report.{end_lines, site_lines}
use Rattle.dcr_text.specs.Lines.{Line, lines_of}
use Rattle.dcr_replay.specs.EntryLines.{IsAnswered, IsNext, IsRun, IsWrongNext, Setting, last_of, names_in, rules_in}
use Rattle.dcr_replay.specs.FirstWrong.{IsVerdict, end_kinds}
use Rattle.dcr_replay.specs.ReportLines.{ended}
use Rattle.dcr_replay.specs.Tracks.{tracked_of}
use Rattle.dcr_replay.specs.declared.entries.Run.{Run}
use Rattle.dcr_replay.specs.declared.verdict.Verdict.{Verdict}
use Rattle.dcr_replay.specs.declared.verdict.Verdict.TheVariants.{Valid, Invalid}
use Rattle.dcr_replay.specs.declared.verdict.Wrong.{Wrong}
use Rattle.dcr_replay.specs.declared.verdict.Wrong.TheVariants as wrong

-- ---- the run

-- the parts of the run fit each other
pub record IsSound (run : Run) : Type 0 where
  pub graph : run.plain.graph ≡ run.graph.now
  pub rooms : All (λ set. length set ≡ length run.graph.now.names) run.cover.now.owned
  pub is_cover : IsCover run.cover.now
  pub directory : run.directory.now ≡ named run.cover.now.names run.graph.now.names
  pub tracked : run.tracked.items ≡ map (tracked_of (rules_of run.graph.now)) run.cover.now.owned
  pub sessions : length run.made.items ≡ 1024
  pub most : run.len ≤ 200000
  pub few : All (λ n. n ≤ run.len) run.made.items

-- the setting is one over this graph and this cover
pub record IsOver (S : Setting) (graph : Flat) (owners : Owners) : Type 0 where
  pub rules : rules_of graph ≡ rules_in S
  pub names : graph.names ≡ names_in S
  pub cover : owners ≡ S.cover

-- one of the entries is a fault, or none is
abbrev pub ToldFault : Bool → List Entry → Type 0
ToldFault true J = HasNoFault J → ⊥
ToldFault false J = HasNoFault J

-- the run is over this setting, and stands after the entries J of a legal history
pub record Stands (S : Setting) (J : List Entry) (run : Run) : Type 0 where
  pub over : IsOver S run.graph.now run.cover.now
  pub legal : IsRun S J
  pub marking : run.plain.marking ≡ last_of S J
  pub counted : run.len ≡ length J
  pub made : (session : ℕ) → session < 1024 → slice_index_or run.made.items session 0 ≡ made_by session J
  pub faulted : ToldFault run.faulted J

-- a further entry may come, and with these numbers
pub record HasPlace (run : Run) (session seq : ℕ) : Type 0 where
  pub few : run.len < 200000
  pub sound : run.faulted ≡ false
  pub below : session < 1024
  pub made : seq ≡ slice_index_or run.made.items session 0

-- how a run takes a line: it has the next entry, whose text the line is, or the line is wrong by the kind
abbrev pub Takes : Setting → List Entry → Line → Option Wrong → Run → Type 0
Takes S J line None run = (entry : Entry) × IsNext S J line entry × IsAnswered S J entry × Stands S (J ++ entry ∷ []) run
Takes S J line (Some kind) run = IsWrongNext S J line kind

-- ---- the lines

-- The verdict is that of each text whose lines have these texts, each with its end, and then go on so. What is known of canonical
-- texts is a premise, so that it is known in one place, where the check begins.
abbrev pub TellsOf : List (List ℕ) → List Line → Verdict → Type 0
TellsOf texts rest verdict = HaveNoLineEnd → MeanOne → (bytes : List ℕ) → lines_of bytes ≡ ended texts ++ rest → IsVerdict bytes verdict

-- a graph and a cover are what an accepted nested graph and an accepted cover of it give
pub record IsAcceptedCase (N : Nest) (graph : Flat) (cover : Owners) : Type 0 where
  pub flat : IsFlattening N graph
  pub accepted_graph : IsAcceptedGraph N.version N
  pub accepted_cover : IsAcceptedCover N cover

-- the texts of the lines of the sites behind the entries of a run, and of all lines there
abbrev pub sites_of : Run → List (List ℕ)
sites_of run = site_lines run.graph.now.names run.cover.now.names (marks_at (rules_of run.graph.now) run.cover.now.owned run.plain.marking)

abbrev pub ends_of : Run → List (List ℕ)
ends_of run = sites_of run ++ end_lines run.graph.now.names (waits (length run.graph.now.names) run.plain.marking) run.len

-- lines are the first i of these, and then comes another line, or none where one is wanted
pub record IsOther (run : Run) (lines : List Line) (number : ℕ) (kind : Wrong) : Type 0 where
  pub i : ℕ
  pub rest : List Line
  pub at : number ≡ 5 + run.len + i
  pub kind_is : kind ≡ slice_index_or (end_kinds (length run.cover.now.names)) i wrong.Extra
  pub within : i ≤ length (ends_of run)
  pub cut : lines ≡ ended (take i (ends_of run)) ++ rest
  pub other : slice_get rest 0 ≡ slice_get (ended (drop i (ends_of run))) 0 → ⊥

-- the verdict over the lines behind the entries of a run: they are these, or they are not
abbrev pub TellsEnds : Run → List Line → Verdict → Type 0
TellsEnds run lines (Valid count) = (count ≡ run.len) × (lines ≡ ended (ends_of run))
TellsEnds run lines (Invalid number kind) = IsOther run lines number kind
