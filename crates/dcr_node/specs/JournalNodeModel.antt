-- What the fields of a journal node stand for.
use Rattle.std.specs.Prelude.{◌≡◌, ℕ, ◌<◌, ◌≤◌, length, slice_get, slice_index, Some}
use Rattle.dcr_journal.specs.Run.{made_by}
use Rattle.dcr_proj.specs.NetworkValue.{IsNetwork}
use Rattle.dcr_node.specs.JournalState.{JournalState, IsProposal, stream_of}
use Rattle.dcr_node.specs.StreamValue.{StreamValue}
use Rattle.dcr_node.specs.declared.journal_node.JournalNode.TheInside.{Inside}
use Rattle.dcr_node.specs.declared.journal_node.Proposal.{Proposal}

abbrev pub journal_state_of : Inside → JournalState
journal_state_of n = record { alphabets = n.network; history = n.journal; sessions = length n.made.items; out = n.out; gathered = n.gathered.items }

-- a proposal that is out is one, and there is room for its entry
pub record IsOut (j : JournalState) (p : Proposal) : Type 0 where
  pub proposal : IsProposal j p
  pub room : length j.history.entries < j.history.capacity

-- a stream with the room of the journal
pub record IsStream (j : JournalState) (i : ℕ) (stream : StreamValue) : Type 0 where
  pub events : stream.events ≡ stream_of j i
  pub room : stream.room ≡ j.history.capacity

-- each stream is its site's, the number of entries of each session is known, and there is a place for what each site tells
pub record IsJournalNode (n : Inside) : Type 0 where
  pub network : IsNetwork n.network
  pub most : n.journal.capacity ≤ 200000
  pub within : length n.journal.entries ≤ n.journal.capacity
  pub made : (k : ℕ) → k < length n.made.items → slice_index n.made.items k ≡ made_by k n.journal.entries
  pub as_many : length n.streams.items ≡ length n.network
  pub streams : (i : ℕ) (stream : StreamValue) → slice_get n.streams.items i ≡ Some stream → IsStream (journal_state_of n) i stream
  pub out : (p : Proposal) → n.out ≡ Some p → IsOut (journal_state_of n) p
  pub gathered : length n.gathered.items ≡ length n.network
