-- What holds of the talks over links.
use Rattle.std.specs.Prelude.{◌≡◌, ℕ, List, ◌++◌, length}
use Rattle.dcr_set.specs.EventSet.{Set}
use Rattle.dcr_graph.specs.Rows.{row}
use Rattle.dcr_graph.specs.Rules.{Rules}
use Rattle.dcr_graph.specs.declared.marking.Marking.{Marking}
use Rattle.dcr_wire.specs.Laws.{Sent}
use Rattle.dcr_wire.specs.declared.answer.Answer.{Answer}
use Rattle.dcr_wire.specs.declared.message.Message.{Message}
use Rattle.dcr_node.specs.JournalState.{JournalState, journal_step, answered_to, proposed, withdrawn}
use Rattle.dcr_node.specs.Right.{IsTrueAt, IsAnswerAt, IsOutAt}
use Rattle.dcr_node.specs.WorldState.{site_at}
use Rattle.dcr_node.specs.declared.journal_node.Proposal.{Proposal}
use Rattle.dcr_talk.specs.Frames.{SpellAll}
use Rattle.dcr_talk.specs.Talk.{CouldSay, told_by}
use Rattle.dcr_talk.specs.Truth.{IsRightJournal}
use Rattle.dcr_seat.specs.InStep.{AreInStep, questions_in}

-- what was answered is just what the machine of the site answers to what was asked
abbrev pub IsHonest : Rules → List Set → Marking → ℕ → List Sent → List Sent → Type 0
IsHonest G C M i asked answers = answers ≡ told_by G (row C i) (site_at G C M i) asked

-- Of what a site's machine could say, each part of a talk in which all was answered is just what the machine answers to what was
-- asked, whatever else was asked and said behind it.
abbrev pub PartsAreHonest : Type 0
PartsAreHonest = (G : Rules) (C : List Set) (M : Marking) (i : ℕ) (asked answers : List Sent) (taken unasked given unheard : List ℕ) → CouldSay G C M i (given ++ unheard) (taken ++ unasked)
    → SpellAll taken asked → SpellAll given answers → AreInStep i asked → length answers ≡ questions_in asked → IsHonest G C M i asked answers

-- ---- a right journal goes on

abbrev pub AProposalIsRight : Type 0
AProposalIsRight = (G : Rules) (C : List Set) (M : Marking) (j : JournalState) (p : Proposal) → IsRightJournal G C M j → IsOutAt G C p → IsRightJournal G C M (proposed j p)

abbrev pub AWithdrawalIsRight : Type 0
AWithdrawalIsRight = (G : Rules) (C : List Set) (M : Marking) (j : JournalState) → IsRightJournal G C M j → IsRightJournal G C M (withdrawn j)

abbrev pub ATrueVoteIsRight : Type 0
ATrueVoteIsRight = (G : Rules) (C : List Set) (M : Marking) (j : JournalState) (message : Message) → IsRightJournal G C M j → IsTrueAt G C M j message → IsRightJournal G C M (journal_step j message)

abbrev pub ATrueAnswerIsRight : Type 0
ATrueAnswerIsRight = (G : Rules) (C : List Set) (M : Marking) (j : JournalState) (a : Answer) → IsRightJournal G C M j → IsAnswerAt G C M j a → IsRightJournal G C M (answered_to j a)
