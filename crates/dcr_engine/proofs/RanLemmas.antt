-- The run of a case, by the end of its cluster and what its workers did.
use Rattle.std.proofs.Common.{◌≡◌, ℕ, ◌<◌, ◌≤◌, List, [], length, Option, Some, sym, subst, arith}
use Rattle.std.specs.Prelude.{slice_index_or}
use Rattle.std.specs.List.{All, sum_by}
use Rattle.dcr_base.specs.Disk.{DiskView}
use Rattle.dcr_graph.specs.Projection.{HasRoom}
use Rattle.dcr_graph.specs.declared.marking.Marking.{Marking}
use Rattle.dcr_journal.specs.Run.{HasNoFault, calls_of}
use Rattle.dcr_journal.specs.declared.call.Call.{Call}
use Rattle.dcr_journal.specs.declared.call.Entry.{Entry}
use Rattle.dcr_journal.specs.declared.closed.Closed.{Closed}
use Rattle.dcr_tape.specs.declared.tape.Store.{Store}
use Rattle.dcr_turn.specs.PassValue.{PassValue}
use Rattle.dcr_turn.specs.TurnId.{TurnId}
use Rattle.dcr_cell.specs.ClusterId.{ClusterId, IsNamed}
use Rattle.dcr_cell.specs.Stored.{StoreStands}
use Rattle.dcr_cluster.proofs.OpeningLemmas.{begun_room}
use Rattle.dcr_cluster.specs.Closing.{IsEnd}
use Rattle.dcr_work.specs.Order.{HistoryInOrder, IsInWorkerOrder}
use Rattle.dcr_work.specs.Working.{AllWorked}
use Rattle.dcr_engine.specs.Ran.{HasRun, IsWhole}
use Rattle.dcr_engine.proofs.WorkedLemmas.{begins_each, has_each, no_more}

pub whole_of : {D : Type 0} (view : D → DiskView) (faults : D → ℕ) (c : ClusterId) (turn : TurnId) (first : Option (Store D)) (begun_with : Store D) (capacity : ℕ) (passes : List PassValue)
    (closed : Closed) (store : Store D) → IsNamed c turn → first ≡ Some begun_with → IsEnd view faults c turn first capacity passes closed store → length closed.history.entries ≤ 200000
    → IsWhole view faults c begun_with closed store
whole_of view faults c turn first begun_with capacity passes closed store named is end few = record {
  opening = end.opening;
  room = subst (λ (M : Marking). HasRoom c.rules.atoms M) (sym end.opening) (begun_room c turn named);
  legal = end.legal;
  most_entries = few;
  marks = end.marks;
  waits = end.waits;
  stored = subst (λ (f : Option (Store _)). StoreStands view faults f c.old closed.history.entries store) is end.stored;
}

pub ran : {D : Type 0} (view : D → DiskView) (faults : D → ℕ) (c : ClusterId) (turn : TurnId) (first : Option (Store D)) (begun_with : Store D) (capacity workers : ℕ)
    (sessions : List (List Call)) (passes : List PassValue) (closed : Closed) (store : Store D) → IsNamed c turn → HistoryInOrder → first ≡ Some begun_with → length sessions ≡ turn.sessions
    → capacity ≡ sum_by (λ (calls : List Call). length calls) sessions → capacity ≤ 200000 → AllWorked c first capacity workers sessions passes
    → IsEnd view faults c turn first capacity passes closed store → HasRun view faults c begun_with workers sessions closed store
ran view faults c turn first begun_with capacity workers sessions passes closed store named law is many all few worked end = record {
  whole = whole_of view faults c turn first begun_with capacity passes closed store named is end (let within = no_more c first capacity workers sessions passes J worked end.made below in omega (arith, within, all, few));
  calls = record { all = each; first = begins_each c first capacity workers sessions passes J worked end.made below; no_other = below };
  in_order = order;
}
  where
    J : List Entry
    J = closed.history.entries

    below : All (λ (entry : Entry). entry.session < length sessions) J
    below = subst (λ (n : ℕ). All (λ (entry : Entry). entry.session < n) J) (sym many) end.sessions

    order : IsInWorkerOrder workers J
    order = law workers (length sessions) passes J worked.in_order worked.in_turn end.made below

    each : HasNoFault J → (k : ℕ) → calls_of k J ≡ slice_index_or sessions k []
    each = has_each c first capacity workers sessions passes J worked end.made below all
