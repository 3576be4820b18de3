-- How a world goes on while executions are proposed and told.
use Rattle.std.specs.Prelude.{◌≡◌, ◌≢◌, ℕ, ◌≤◌, List, length, fold, slice_get, Some, None}
use Rattle.dcr_set.specs.EventSet.{Set}
use Rattle.dcr_graph.specs.Rules.{Rules}
use Rattle.dcr_graph.specs.declared.marking.Marking.{Marking}
use Rattle.dcr_journal.specs.Run.{told_next}
use Rattle.dcr_journal.specs.declared.call.Call.{Call}
use Rattle.dcr_node.specs.JournalState.{JournalState, asked_by, stream_of}
use Rattle.dcr_node.specs.Laws.{counts}
use Rattle.dcr_node.specs.WorldState.{WorldState}
use Rattle.dcr_node.specs.declared.journal_node.Proposal.{Proposal}

-- the proposal has its entry as the graph tells it, and nothing is out
pub record HasTold (G : Rules) (C : List Set) (M : Marking) (p : Proposal) (before after : JournalState) : Type 0 where
  pub entries : after.history.entries ≡ told_next G C M before.history.entries (asked_by p)
  pub out : after.out ≡ None

-- these executions have their entries, one after the other, and nothing is out
pub record HaveTold (G : Rules) (C : List Set) (M : Marking) (asked : List (ℕ × Call)) (before after : JournalState) : Type 0 where
  pub entries : after.history.entries ≡ fold (told_next G C M) before.history.entries asked
  pub out : after.out ≡ None

-- where nothing was out, and there was room for the entries
abbrev pub AreTold : Rules → List Set → Marking → List (ℕ × Call) → JournalState → JournalState → Type 0
AreTold G C M asked before after =
    before.out ≡ None → length (fold (told_next G C M) before.history.entries asked) ≤ before.history.capacity → HaveTold G C M asked before after

-- the site has heard of its whole stream; the journal and what the others have heard of stayed
pub record HasHeard (i : ℕ) (before after : WorldState) : Type 0 where
  pub journal : after.journal ≡ before.journal
  pub heard : slice_get (counts after) i ≡ Some (length (stream_of before.journal i))
  pub others : (j : ℕ) → j ≢ i → slice_get (counts after) j ≡ slice_get (counts before) j
