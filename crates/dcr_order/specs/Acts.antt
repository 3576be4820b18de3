-- What a journal apart was told: calls that were proposed and taken back, and what sites answered.
use Rattle.std.specs.Prelude.{ℕ, List, [], ◌∷◌, ◌++◌, fold, ⊤}
use Rattle.dcr_set.specs.EventSet.{Set}
use Rattle.dcr_graph.specs.Rules.{Rules}
use Rattle.dcr_graph.specs.declared.marking.Marking.{Marking}
use Rattle.dcr_wire.specs.Laws.{Sent, sent_message, sent_question, sent_answer}
use Rattle.dcr_node.specs.JournalState.{JournalState, proposed, withdrawn, journal_step, answered_to}
use Rattle.dcr_node.specs.declared.journal_node.Proposal.{Proposal}
use Rattle.dcr_seat.specs.Laws.{IsHonest}

-- the moment of a talk at which an answer was read of the link with this number: what the site was asked until then, what it had
-- answered before, and the answer
pub record Moment : Type 0 where
  pub site : ℕ
  pub number : ℕ
  pub asked : List Sent
  pub before : List Sent
  pub answer : Sent

-- all that the site had answered then
abbrev pub answers_of : Moment → List Sent
answers_of m = m.before ++ m.answer ∷ []

pub data Act : Type 0 where
  -- a call is proposed
  proposes : Proposal → Act
  -- the call that is out is taken back
  withdraws : Act
  -- an answer that was read is handed to the journal
  hears : Moment → Act

-- the journal after an answer was handed to it
abbrev pub handed : JournalState → Sent → JournalState
handed j (sent_message message) = journal_step j message
handed j (sent_question question) = j
handed j (sent_answer answer) = answered_to j answer

abbrev pub acted : JournalState → Act → JournalState
acted j (proposes p) = proposed j p
acted j withdraws = withdrawn j
acted j (hears m) = handed j m.answer

-- the journal after all of these
abbrev pub after_acts : JournalState → List Act → JournalState
after_acts j acts = fold acted j acts

-- what was read until then is what the machine of the site answers to what it was asked
abbrev pub IsHonestAct : Rules → List Set → Marking → Act → Type 0
IsHonestAct G C M (proposes p) = ⊤
IsHonestAct G C M withdraws = ⊤
IsHonestAct G C M (hears m) = IsHonest G C M m.site m.asked (answers_of m)
