-- What the journal's node and the nodes of sites tell each other that is true.
use Rattle.std.specs.Prelude.{◌≡◌, List, Some}
use Rattle.std.specs.List.{All}
use Rattle.dcr_set.specs.EventSet.{Set}
use Rattle.dcr_graph.specs.Rules.{Rules}
use Rattle.dcr_graph.specs.declared.marking.Marking.{Marking}
use Rattle.dcr_journal.specs.Run.{IsSound}
use Rattle.dcr_wire.specs.Laws.{Sent, sent_message, sent_question, sent_answer}
use Rattle.dcr_node.specs.JournalState.{JournalState}
use Rattle.dcr_node.specs.WorldState.{alphabets_over}
use Rattle.dcr_node.specs.Right.{IsCase, IsTrueAt, IsOutAt, IsAskedAt, IsAnswerAt, AreGathered}
use Rattle.dcr_node.specs.declared.journal_node.Proposal.{Proposal}

-- The journal of a right world: it is a run of the graph, what is out can be asked, and what was gathered is the graph's.
pub record IsRightJournal (G : Rules) (C : List Set) (M : Marking) (j : JournalState) : Type 0 where
  pub is_case : IsCase G C M
  pub alphabets : j.alphabets ≡ alphabets_over G C
  pub sound : IsSound G C M j.history.entries
  pub out : (p : Proposal) → j.out ≡ Some p → IsOutAt G C p
  pub gathered : AreGathered G C M j

-- a message, a question or an answer is true
abbrev pub IsTrueSent : Rules → List Set → Marking → JournalState → Sent → Type 0
IsTrueSent G C M j (sent_message message) = IsTrueAt G C M j message
IsTrueSent G C M j (sent_question question) = IsAskedAt j question
IsTrueSent G C M j (sent_answer answer) = IsAnswerAt G C M j answer

abbrev pub AreTrue : Rules → List Set → Marking → JournalState → List Sent → Type 0
AreTrue G C M j all = All (IsTrueSent G C M j) all
