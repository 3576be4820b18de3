-- With which status the report of a run is due.
use Rattle.std.proofs.Common.{◌⊎◌, List, [], inl, inr, sym, subst}
use Rattle.dcr_set.specs.EventSet.{Set}
use Rattle.dcr_graph.specs.Rules.{Rules}
use Rattle.dcr_graph.specs.declared.marking.Marking.{Marking}
use Rattle.dcr_base.specs.declared.status.Status.{Status}
use Rattle.dcr_base.specs.declared.status.Status.TheVariants.{Done, DiskFault, Full, DoorFault}
use Rattle.dcr_journal.specs.Run.{HasNoFault, IsLegal}
use Rattle.dcr_journal.specs.declared.call.Entry.{Entry}
use Rattle.dcr_turn.specs.Pushing.{EndsWithoutFault}
use Rattle.dcr_cell.proofs.RunLemmas.{ends_without, no_fault_by_last}
use Rattle.dcr_app.specs.Telling.{IsDueBy, all_done, disk_failed, door_failed, is_full}

-- a fault in a run is its last entry
pub due_of : {full failed other_failed : Type 0} (G : Rules) (C : List Set) (M : Marking) (J : List Entry) (due : Status) → IsLegal G C M J → (failed → other_failed)
    → IsDueBy (EndsWithoutFault J) full failed due → IsDueBy (HasNoFault J) full other_failed due
due_of {full} {failed} {other_failed} G C M J due legal failed_to it = by_cases it
  where
    to : EndsWithoutFault J → HasNoFault J
    to = no_fault_by_last (record { rules = G; owned = C; opening = M; old = [] }) J legal

    by_cases : IsDueBy (EndsWithoutFault J) full failed due → IsDueBy (HasNoFault J) full other_failed due
    by_cases (disk_failed some is) = disk_failed (λ none. some (ends_without J none)) is
    by_cases (is_full none full is) = is_full (to none) full is
    by_cases (door_failed none room failed is) = door_failed (to none) room (failed_to failed) is
    by_cases (all_done none room is) = all_done (to none) room is

-- what holds of the four statuses holds of the one that is due
pub by_due : {fine full failed : Type 0} {due : Status} (P : Status → Type 0) → ((fine → ⊥) → P DiskFault) → (fine → full → P Full) → (fine → failed → P DoorFault) → (fine → (full → ⊥) → P Done)
    → IsDueBy fine full failed due → P due
by_due P disk all door done (disk_failed some is) = subst P (sym is) (disk some)
by_due P disk all door done (is_full none full is) = subst P (sym is) (all none full)
by_due P disk all door done (door_failed none room failed is) = subst P (sym is) (door none failed)
by_due P disk all door done (all_done none room is) = subst P (sym is) (done none room)

-- whether an execution failed, by the status that is due
pub either_way : {fine full failed : Type 0} {due : Status} → IsDueBy fine full failed due → fine ⊎ (fine → ⊥)
either_way (disk_failed some is) = inr some
either_way (is_full none full is) = inl none
either_way (door_failed none room failed is) = inl none
either_way (all_done none room is) = inl none
