-- A site apart: its number, of how many executions it has heard, its projection and its marks. What it answers to a
-- message and what the message does to it, by its own marks and its local rules alone.
use Rattle.std.specs.Prelude.{◌≡◌, ℕ, ◌+◌, ◌<◌, ◌&&◌, ◌==◌, Bool, true, length, Option, Some, None, if◌then◌else◌}
use Rattle.dcr_set.specs.EventSet.{Set, has}
use Rattle.dcr_graph.specs.Rules.{Rules}
use Rattle.dcr_graph.specs.Projection.{local_step}
use Rattle.dcr_graph.specs.declared.marking.SiteMark.{SiteMark}
use Rattle.dcr_site.specs.Decision.{by_cause}
use Rattle.dcr_site.specs.Seen.{Seen}
use Rattle.dcr_site.specs.declared.site.Decision.{Decision}
use Rattle.dcr_site.specs.declared.site.Decision.TheVariants.{NotHere}
use Rattle.dcr_laws.specs.AtSites.{cause_at, enabled_at, waits_at}
use Rattle.dcr_wire.specs.declared.answer.Answer.{Answer}
use Rattle.dcr_wire.specs.declared.answer.Told.{Told}
use Rattle.dcr_wire.specs.declared.answer.Told.TheVariants as told
use Rattle.dcr_wire.specs.declared.message.Message.{Message}
use Rattle.dcr_wire.specs.declared.message.Message.TheVariants.{Ask, Vote, Apply}
use Rattle.dcr_wire.specs.declared.question.Asked.{Asked}
use Rattle.dcr_wire.specs.declared.question.Asked.TheVariants.{Marks, Can, Waits}
use Rattle.dcr_wire.specs.declared.question.Question.{Question}

pub record SiteState : Type 0 where
  pub id : ℕ
  -- of how many executions of its stream it has heard
  pub count : ℕ
  pub site : Seen

-- the state before any message
abbrev pub new_site : ℕ → Seen → SiteState
new_site id site = record { id = id; count = 0; site = site }

-- the same with these marks, and one execution more heard of
abbrev pub heard_one : SiteState → SiteMark → SiteState
heard_one node mark =
    let site : Seen = record { projection = node.site.projection; mark = mark } in
    record { id = node.id; count = node.count + 1; site = site }

-- what the site that owns S decides of e by its marks: not here where it doesn't own e, else by the local cause
abbrev pub decision_at : Rules → Set → SiteMark → ℕ → Decision
decision_at G S m e = if has S e then by_cause (cause_at G S m e) else NotHere

-- the question is for the site, and it has heard of just as many executions
abbrev pub is_ready : SiteState → ℕ → ℕ → Bool
is_ready node site count = (site == node.id) && (count == node.count)

-- The answer of the site that owns S: to a question for it at its own count the vote, by its marks; to all else none.
abbrev pub replied : Rules → Set → SiteState → Message → Option Message
replied G S node (Ask number site event count) =
    if is_ready node site count then Some (Vote number site (decision_at G S node.site.mark event)) else None
replied G S node (Vote number site decision) = None
replied G S node (Apply site index event) = None

-- what the site that owns S tells by its marks: them, the owned atoms that may be executed, the least owned atom that waits
abbrev pub told_at : Rules → Set → SiteMark → Asked → Told
told_at G S m Marks = told.Marks m
told_at G S m Can = told.Can (enabled_at G S m)
told_at G S m Waits = told.Waits (waits_at G.atoms S m)

-- what that site tells to a question
abbrev pub answer_at : Rules → Set → SiteState → Question → Answer
answer_at G S node q = record { number = q.number; site = q.site; told = told_at G S node.site.mark q.asked }

-- the answer of the site that owns S to a question for it at its own count; to any other none
abbrev pub answered : Rules → Set → SiteState → Question → Option Answer
answered G S node q = if is_ready node q.site q.count then Some (answer_at G S node q) else None

-- The state of the site that owns S after a message: the execution whose index is its count is applied by the local
-- step, and the count rises; all else changes nothing.
abbrev pub site_step : Rules → Set → SiteState → Message → SiteState
site_step G S node (Ask number site event count) = node
site_step G S node (Vote number site decision) = node
site_step G S node (Apply site index event) =
    if is_ready node site index then heard_one node (local_step G S node.site.mark event) else node

-- the count after a message
abbrev pub count_after : SiteState → Message → ℕ
count_after node (Ask number site event count) = node.count
count_after node (Vote number site decision) = node.count
count_after node (Apply site index event) = if is_ready node site index then node.count + 1 else node.count

-- The site may be handed the message: where it is a question for it, the event is an atom; where it tells it of an
-- execution, the event is of its alphabet and the index below the most entries that there may be. Of other messages
-- nothing is asked.
abbrev pub SiteMayTake : SiteState → Message → Type 0
SiteMayTake node (Ask number site event count) = site ≡ node.id → event < length node.site.projection.own
SiteMayTake node (Vote number site decision) = Unit {0}
SiteMayTake node (Apply site index event) = site ≡ node.id → (has node.site.projection.alphabet event ≡ true) × (index < 200000)
