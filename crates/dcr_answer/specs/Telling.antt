-- What came of handing a site what it was asked, and of sending what it answers.
use Rattle.std.specs.Prelude.{◌≡◌, ◌⊎◌, ℕ, List, Option, Some, None}
use Rattle.dcr_base.specs.Count.{Fails}
use Rattle.dcr_base.specs.Side.{Side, Adds, Stopped}
use Rattle.dcr_set.specs.EventSet.{Set}
use Rattle.dcr_graph.specs.Rules.{Rules}
use Rattle.dcr_wire.specs.Laws.{Sent}
use Rattle.dcr_node.specs.SiteState.{SiteState}
use Rattle.dcr_talk.specs.Frames.{SpellAll}
use Rattle.dcr_talk.specs.Talk.{told_to, stepped}
use Rattle.dcr_answer.specs.Reading.{IsInRange}
use Rattle.dcr_answer.specs.declared.end.AnswerEnd.{AnswerEnd}
use Rattle.dcr_answer.specs.declared.end.AnswerEnd.TheVariants.{NotOurs, LinkFault}

-- a front of the text was sent, and then a write failed
pub record StopsSending (text : List ℕ) (had took : Side) : Type 0 where
  pub front : Stopped text had took
  pub fault : Fails had.faults took.faults

-- the text was sent, or a front of it until the link failed
abbrev pub Sends : List ℕ → Side → Side → Option AnswerEnd → Type 0
Sends text had took None = Adds text had took
Sends text had took (Some end) = (end ≡ LinkFault) × StopsSending text had took

-- the site was handed one that it may be asked by, this is all that its machine answers to it, and it stands so since
pub record Handed (G : Rules) (S : Set) (before after : SiteState) (one : Sent) (text : List ℕ) : Type 0 where
  pub in_range : IsInRange before one
  pub answer : SpellAll text (told_to G S before one)
  pub stepped : after ≡ stepped G S before one

-- What the machine answers was sent; or it was not handed what it may not be asked by, or a write failed.
abbrev pub Tells : Rules → Set → SiteState → SiteState → Sent → Side → Side → Option AnswerEnd → Type 0
Tells G S before after one had took None = (text : List ℕ) × Handed G S before after one text × Adds text had took
Tells G S before after one had took (Some end) =
    ((end ≡ NotOurs) × (IsInRange before one → ⊥) × (took ≡ had))
    ⊎ ((end ≡ LinkFault) × (text : List ℕ) × Handed G S before after one text × StopsSending text had took)
