-- What holds of sites over links.
use Rattle.std.specs.Prelude.{◌≡◌, ℕ, List, ◌++◌, Some}
use Rattle.dcr_base.specs.Side.{Side}
use Rattle.dcr_set.specs.EventSet.{Set}
use Rattle.dcr_graph.specs.Rows.{row}
use Rattle.dcr_graph.specs.Rules.{Rules}
use Rattle.dcr_graph.specs.declared.marking.Marking.{Marking}
use Rattle.dcr_node.specs.WorldState.{site_at}
use Rattle.dcr_talk.specs.Talk.{CouldSay}
use Rattle.dcr_answer.specs.Answering.{Talks}
use Rattle.dcr_answer.specs.declared.end.AnswerEnd.{AnswerEnd}

-- the bytes that a side has lost since, and those that it has more
pub record Lost (before after : Side) (bytes : List ℕ) : Type 0 where
  pub rest : List ℕ
  pub had : before.bytes ≡ Some (bytes ++ rest)
  pub has : after.bytes ≡ Some rest

pub record Gained (before after : Side) (bytes : List ℕ) : Type 0 where
  pub old : List ℕ
  pub had : before.bytes ≡ Some old
  pub has : after.bytes ≡ Some (old ++ bytes)

-- A site i that was begun at the opening has talked over a link that tells what it read and what it wrote. Then whoever sent
-- what it read, and perhaps more, and got a beginning of what it wrote, has a link that could say that.
abbrev pub ASiteCouldSay : {L : Type 0} → (L → Type 0) → (L → Side) → (L → Side) → Type 0
ASiteCouldSay has_ended gives takes = (G : Rules) (C : List Set) (M : Marking) (i : ℕ) (before after : _) (end : AnswerEnd) (got unread written given unheard : List ℕ)
    → Talks G (row C i) (site_at G C M i) (has_ended after) (gives before) (gives after) (takes before) (takes after) end
    → Lost (gives before) (gives after) got → Gained (takes before) (takes after) written → written ≡ given ++ unheard
    → CouldSay G C M i given (got ++ unread)
