-- A case as the reader builds it, and what may be counted on.
use Rattle.std.specs.Prelude.{◌≡◌, ◌≤◌, length, sum_by}
use Rattle.std.specs.List.{All}
use Rattle.dcr_graph.specs.Projection.{HasRoom}
use Rattle.dcr_nest.specs.FlatRelation.{IsFlattening}
use Rattle.dcr_journal.specs.Run.{IsInRange}
use Rattle.dcr_cover_json.specs.Accepted.{IsAcceptedCover}
use Rattle.dcr_graph_json.specs.Accepted.{IsAcceptedGraph}
use Rattle.dcr_json.specs.Written.{Spelled}
use Rattle.dcr_json.specs.declared.case.Case.{Case}

-- the case with its fields read as lists
abbrev pub case_of : Case → Spelled
case_of case = record { nested = case.nested; cover = case.cover; opening = case.opening; sessions = case.sessions }

-- that no refusal of a case file refuses the parts of a case, and that they fit together
pub record IsCase (case : Case) : Type 0 where
  pub accepted_graph : IsAcceptedGraph case.nested.version case.nested
  pub accepted_cover : IsAcceptedCover case.nested case.cover
  pub flat : IsFlattening case.nested case.graph
  pub rooms : All (λ set. length set ≡ length case.graph.names) case.cover.owned
  pub opening : HasRoom (length case.graph.names) case.opening
  pub most_sessions : length case.sessions ≤ 1024
  pub most_calls : sum_by length case.sessions ≤ 200000
  pub calls_in_range : All (λ calls. All (IsInRange (length case.cover.names) (length case.graph.names)) calls) case.sessions
