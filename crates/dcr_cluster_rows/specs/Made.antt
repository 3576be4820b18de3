-- The cluster of a case, and what it ends with.
use Rattle.std.specs.Prelude.{◌≡◌, ◌≤◌, List, length}
use Rattle.dcr_graph.specs.Cause.{waits}
use Rattle.dcr_graph.specs.GraphValue.{rules_of}
use Rattle.dcr_graph.specs.Projection.{HasRoom}
use Rattle.dcr_journal.specs.Run.{IsLegal, after, marks_at}
use Rattle.dcr_journal.specs.declared.closed.Closed.{Closed}
use Rattle.dcr_json.specs.declared.case.Case.{Case}
use Rattle.dcr_site.specs.Seen.{Seen}
use Rattle.dcr_site.specs.Together.{AllStand}
use Rattle.dcr_tape.specs.declared.entry.TapeEntry.{TapeEntry}
use Rattle.dcr_turn.specs.TurnId.{TurnId}
use Rattle.dcr_cell.specs.ClusterId.{ClusterId, IsNamed}

-- the cluster of a case that goes on from these executions
abbrev pub cluster_of : Case → List TapeEntry → ClusterId
cluster_of case old = record { rules = rules_of case.graph; owned = case.cover.owned; opening = case.opening; old = old }

-- the turn is that of the case's sites, which stand at its opening marking
pub record AreOfCase (case : Case) (turn : TurnId) (sites : List Seen) : Type 0 where
  pub named : (old : List TapeEntry) → length old ≤ 1000000 → IsNamed (cluster_of case old) turn
  pub stand : AllStand (rules_of case.graph) case.cover.owned case.opening sites

-- the run is one of the case's graph from its own opening marking, with the marks and the verdict after it
pub record IsOfCase (case : Case) (closed : Closed) : Type 0 where
  pub room : HasRoom (length case.graph.names) closed.opening
  pub legal : IsLegal (rules_of case.graph) case.cover.owned closed.opening closed.history.entries
  pub marks : closed.marks ≡ marks_at (rules_of case.graph) case.cover.owned (after (rules_of case.graph) closed.opening closed.history.entries)
  pub waits : closed.waits ≡ waits (length case.graph.names) (after (rules_of case.graph) closed.opening closed.history.entries)
