-- What lies beside the journal under its lock.
use Rattle.std.specs.Prelude.{◌≡◌, ℕ, Bool, true, false, List, Option}
use Rattle.dcr_base.specs.Disk.{DiskView}
use Rattle.dcr_journal.specs.declared.call.Outcome.{Outcome}
use Rattle.dcr_journal.specs.declared.call.Outcome.TheVariants.{Done, Faulted}
use Rattle.dcr_journal.specs.declared.call.Entry.{Entry}
use Rattle.dcr_tape.specs.declared.tape.Store.{Store}
use Rattle.dcr_cell.specs.ClusterId.{ClusterId, IsRunOf}
use Rattle.dcr_cell.specs.Stored.{StoreStands, IsTaped}

-- the journal's list is a run of the graph, and the store is that of the run
pub record StandsBy {D : Type 0} (view : D → DiskView) (faults : D → ℕ) (c : ClusterId) (first : Option (Store D)) (J : List Entry) (store : Store D) : Type 0 where
  pub legal : IsRunOf c J
  pub stored : StoreStands view faults first c.old J store

-- What an execution is told where this was found: the same, but where it is done and the tape failed to keep it.
pub data IsToldAs {D : Type 0} (first : Option (Store D)) (found told : Outcome) : Type 0 where
  as_found : told ≡ found → IsToldAs first found told
  as_fault : IsTaped first → found ≡ Done → told ≡ Faulted → IsToldAs first found told

-- what an execution that can be done is told, which was kept or failed to be
abbrev pub kept_as : Bool → Outcome
kept_as true = Done
kept_as false = Faulted
