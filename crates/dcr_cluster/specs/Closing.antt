-- What comes back from a cluster that was closed.
use Rattle.std.specs.Prelude.{◌≡◌, ℕ, ◌<◌, List, Option}
use Rattle.std.specs.List.{All}
use Rattle.dcr_base.specs.Disk.{DiskView}
use Rattle.dcr_graph.specs.Cause.{waits}
use Rattle.dcr_journal.specs.Run.{marks_at}
use Rattle.dcr_journal.specs.declared.call.Entry.{Entry}
use Rattle.dcr_journal.specs.declared.closed.Closed.{Closed}
use Rattle.dcr_tape.specs.declared.tape.Store.{Store}
use Rattle.dcr_turn.specs.PassValue.{PassValue, HasMadeAll}
use Rattle.dcr_turn.specs.TurnId.{TurnId}
use Rattle.dcr_cell.specs.ClusterId.{ClusterId, IsRunOf, begun, marking_after}
use Rattle.dcr_cell.specs.Stored.{StoreStands}

-- The history is a run of the graph from the marking that the cluster began with. Each pass's calls are all that it has of
-- the session, and it has no entry of another session. The marks of each site are its projection of the marking after it,
-- and what is waited for is what that marking waits for. The store is that of the run.
pub record IsEnd {D : Type 0} (view : D → DiskView) (faults : D → ℕ) (c : ClusterId) (turn : TurnId) (first : Option (Store D)) (capacity : ℕ) (passes : List PassValue) (closed : Closed)
    (store : Store D) : Type 0 where
  pub opening : closed.opening ≡ begun c
  pub capacity_kept : closed.history.capacity ≡ capacity
  pub legal : IsRunOf c closed.history.entries
  pub made : All (λ pass. HasMadeAll pass closed.history.entries) passes
  pub sessions : All (λ (entry : Entry). entry.session < turn.sessions) closed.history.entries
  pub marks : closed.marks ≡ marks_at c.rules c.owned (marking_after c closed.history.entries)
  pub waits : closed.waits ≡ waits c.rules.atoms (marking_after c closed.history.entries)
  pub stored : StoreStands view faults first c.old closed.history.entries store
