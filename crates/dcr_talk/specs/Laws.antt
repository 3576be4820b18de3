-- What holds of talks over links.
use Rattle.std.specs.Prelude.{◌≡◌, ℕ, ◌<◌, List, ◌++◌, length}
use Rattle.dcr_set.specs.EventSet.{Set}
use Rattle.dcr_graph.specs.Rows.{row}
use Rattle.dcr_graph.specs.Rules.{Rules}
use Rattle.dcr_graph.specs.declared.marking.Marking.{Marking}
use Rattle.dcr_wire.specs.Laws.{Sent}
use Rattle.dcr_node.specs.SiteState.{SiteState}
use Rattle.dcr_node.specs.JournalState.{JournalState}
use Rattle.dcr_node.specs.WorldState.{site_at}
use Rattle.dcr_talk.specs.Frames.{SpellAll, HasNoFrame}
use Rattle.dcr_talk.specs.Talk.{told_by, after_all}
use Rattle.dcr_talk.specs.Truth.{IsRightJournal, AreTrue}

-- the journal is right, and what a site's machine was handed is true: then so is all that it answers
abbrev pub AnswersAreTrue : Type 0
AnswersAreTrue = (G : Rules) (C : List Set) (M : Marking) (j : JournalState) (i : ℕ) (asked : List Sent)
    → IsRightJournal G C M j → i < length C → AreTrue G C M j asked → AreTrue G C M j (told_by G (row C i) (site_at G C M i) asked)

-- what is answered to more is answered behind what is answered to the first of it
abbrev pub AnswersComeInOrder : Type 0
AnswersComeInOrder = (G : Rules) (S : Set) (node : SiteState) (asked more : List Sent)
    → told_by G S node (asked ++ more) ≡ told_by G S node asked ++ told_by G S (after_all G S node asked) more

-- where bytes that are frames begin the bytes of others, but for one that is not whole, they are the frames of the first of those
abbrev pub ABeginningIsOfTheFirst : Type 0
ABeginningIsOfTheFirst = (heard unheard whole behind : List ℕ) (asked messages : List Sent)
    → SpellAll heard asked → SpellAll whole messages → HasNoFrame behind → heard ++ unheard ≡ whole ++ behind
    → (more : List Sent) × (messages ≡ asked ++ more)
