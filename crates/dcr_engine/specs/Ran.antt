-- The run that the sessions of a case have on the sites of a graph.
use Rattle.std.specs.Prelude.{◌≡◌, ℕ, ◌<◌, ◌≤◌, List, [], length, take, slice_index_or, Some}
use Rattle.std.specs.List.{All}
use Rattle.dcr_base.specs.Disk.{DiskView}
use Rattle.dcr_graph.specs.Cause.{waits}
use Rattle.dcr_graph.specs.GraphValue.{Flat, rules_of}
use Rattle.dcr_graph.specs.Projection.{HasRoom}
use Rattle.dcr_graph.specs.declared.marking.Marking.{Marking}
use Rattle.dcr_proj.specs.CoverValue.{Owners}
use Rattle.dcr_journal.specs.Run.{HasNoFault, calls_of, marks_at}
use Rattle.dcr_journal.specs.declared.call.Call.{Call}
use Rattle.dcr_journal.specs.declared.call.Entry.{Entry}
use Rattle.dcr_journal.specs.declared.closed.Closed.{Closed}
use Rattle.dcr_tape.specs.declared.entry.TapeEntry.{TapeEntry}
use Rattle.dcr_tape.specs.declared.tape.Store.{Store}
use Rattle.dcr_cell.specs.ClusterId.{ClusterId, IsRunOf, begun, marking_after}
use Rattle.dcr_cell.specs.Stored.{StoreStands}
use Rattle.dcr_work.specs.Order.{IsInWorkerOrder}

-- the cluster of a graph and a cover that begins with this marking and goes on from these executions
abbrev pub cluster_of : Flat → Owners → Marking → List TapeEntry → ClusterId
cluster_of graph cover opening old = record { rules = rules_of graph; owned = cover.owned; opening = opening; old = old }

-- The history of a cluster over this store, told whole: it begins with the opening marking stepped by the executions from
-- before, and is a run of the graph. The marks of each site are its projection of the marking after it, and what is waited
-- for is what that marking waits for. The store is that of the run.
pub record IsWhole {D : Type 0} (view : D → DiskView) (faults : D → ℕ) (c : ClusterId) (first : Store D) (closed : Closed) (store : Store D) : Type 0 where
  pub opening : closed.opening ≡ begun c
  pub room : HasRoom c.rules.atoms closed.opening
  pub legal : IsRunOf c closed.history.entries
  pub most_entries : length closed.history.entries ≤ 200000
  pub marks : closed.marks ≡ marks_at c.rules c.owned (marking_after c closed.history.entries)
  pub waits : closed.waits ≡ waits c.rules.atoms (marking_after c closed.history.entries)
  pub stored : StoreStands view faults (Some first) c.old closed.history.entries store

-- The history has a beginning of each session's calls, in order, each once, and no entry of another session; where nothing
-- failed it has them all.
pub record HasCalls (sessions : List (List Call)) (J : List Entry) : Type 0 where
  pub all : HasNoFault J → (k : ℕ) → calls_of k J ≡ slice_index_or sessions k []
  pub first : (k : ℕ) → (count : ℕ) × (calls_of k J ≡ take count (slice_index_or sessions k []))
  pub no_other : All (λ (entry : Entry). entry.session < length sessions) J

-- the run of the sessions by so many workers, over this store
pub record HasRun {D : Type 0} (view : D → DiskView) (faults : D → ℕ) (c : ClusterId) (first : Store D) (workers : ℕ) (sessions : List (List Call)) (closed : Closed)
    (store : Store D) : Type 0 where
  pub whole : IsWhole view faults c first closed store
  pub calls : HasCalls sessions closed.history.entries
  pub in_order : IsInWorkerOrder workers closed.history.entries
