-- The run of one worker.
use Rattle.std.specs.Prelude.{◌≡◌, ℕ, ◌<◌, List, [], length, slice_index_or}
use Rattle.std.specs.List.{All}
use Rattle.dcr_set.specs.EventSet.{Set}
use Rattle.dcr_graph.specs.Rules.{Rules}
use Rattle.dcr_graph.specs.declared.marking.Marking.{Marking}
use Rattle.dcr_journal.specs.Run.{HasNoFault, IsLegal, calls_of, told}
use Rattle.dcr_journal.specs.declared.call.Call.{Call}
use Rattle.dcr_journal.specs.declared.call.Entry.{Entry}
use Rattle.dcr_work.specs.Order.{IsInWorkerOrder}

-- a run of the graph in which nothing failed, with every call of the sessions and no other, in the order of one worker, is
-- the told run
abbrev pub OrderedIsTold : Type 0
OrderedIsTold =
    (G : Rules) (C : List Set) (M : Marking) (sessions : List (List Call)) (J : List Entry) → IsLegal G C M J → HasNoFault J → IsInWorkerOrder 1 J
    → ((k : ℕ) → calls_of k J ≡ slice_index_or sessions k []) → All (λ (entry : Entry). entry.session < length sessions) J → J ≡ told G C M sessions
