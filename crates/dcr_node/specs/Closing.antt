-- What a world that has ended tells.
use Rattle.std.specs.Prelude.{◌≡◌, List}
use Rattle.dcr_set.specs.EventSet.{Set}
use Rattle.dcr_graph.specs.Cause.{waits}
use Rattle.dcr_graph.specs.Rules.{Rules}
use Rattle.dcr_graph.specs.declared.marking.Marking.{Marking}
use Rattle.dcr_journal.specs.Run.{after, marks_at}
use Rattle.dcr_journal.specs.declared.closed.Closed.{Closed}
use Rattle.dcr_node.specs.WorldState.{WorldState}

-- the opening, the journal, and the marks and the verdict of the graph after it
pub record Closes (G : Rules) (C : List Set) (M : Marking) (w : WorldState) (closed : Closed) : Type 0 where
  pub opening : closed.opening ≡ M
  pub history : closed.history ≡ w.journal.history
  pub marks : closed.marks ≡ marks_at G C (after G M w.journal.history.entries)
  pub waits : closed.waits ≡ waits G.atoms (after G M w.journal.history.entries)
