-- What a run at sites apart comes to.
use Rattle.std.specs.Prelude.{◌≡◌, ◌≤◌, List, length}
use Rattle.dcr_set.specs.EventSet.{Set}
use Rattle.dcr_graph.specs.Rules.{Rules}
use Rattle.dcr_graph.specs.declared.marking.Marking.{Marking}
use Rattle.dcr_journal.specs.Run.{told}
use Rattle.dcr_journal.specs.declared.call.Call.{Call}
use Rattle.dcr_journal.specs.declared.closed.Closed.{Closed}
use Rattle.dcr_node.specs.Closing.{Closes}
use Rattle.dcr_node.specs.Right.{IsRight}
use Rattle.dcr_node.specs.WorldState.{HaveHeardAll, WorldState}
use Rattle.dcr_schedule.specs.Executions.{exec_calls}

-- The executions of the sessions were run at sites apart: the world is right for the rules, the owned sets and the opening,
-- its journal is the told run of the executions, every site has heard of its whole stream, and this is how it closed.
pub record HasRunApart (G : Rules) (C : List Set) (M : Marking) (sessions : List (List Call)) (world : WorldState) (closed : Closed) : Type 0 where
  pub right : IsRight G C M world
  pub told : world.journal.history.entries ≡ told G C M (exec_calls sessions)
  pub most_entries : length world.journal.history.entries ≤ 200000
  pub heard : HaveHeardAll world
  pub closes : Closes G C M world closed
