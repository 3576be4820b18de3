-- The parts of a world, taken one by one: its journal, its sites and what was sent.
use Rattle.std.specs.Prelude.{◌≡◌, ℕ, List, length, slice_get, slice_set, Option, Some}
use Rattle.dcr_set.specs.EventSet.{Set}
use Rattle.dcr_graph.specs.Rules.{Rules}
use Rattle.dcr_graph.specs.declared.marking.Marking.{Marking}
use Rattle.dcr_site.specs.Seen.{Seen, StandsAt}
use Rattle.dcr_wire.specs.declared.answer.Answer.{Answer}
use Rattle.dcr_wire.specs.declared.message.Message.{Message}
use Rattle.dcr_wire.specs.declared.question.Question.{Question}
use Rattle.dcr_node.specs.SiteState.{SiteState, replied, site_step}
use Rattle.dcr_node.specs.JournalState.{JournalState}
use Rattle.dcr_node.specs.WorldState.{WorldState, IsEvent}
use Rattle.dcr_node.specs.Machine.{sending, happens}
use Rattle.dcr_node.specs.Right.{IsRight}
use Rattle.dcr_node.specs.declared.event.WorldEvent.{WorldEvent}

-- the world of these parts
abbrev pub world_with : Marking → JournalState → List SiteState → List Message → List Question → List Answer → WorldState
world_with M journal sites sent questions answers =
    record { opening = M; journal = journal; sites = sites; sent = sent; questions = questions; answers = answers }

-- the parts are those of a right world, where this event may happen
pub record MayHappen (journal : JournalState) (sites : List SiteState) (sent : List Message) (event : WorldEvent) : Type 0 where
  pub rules : Rules
  pub owned : List Set
  pub opening : Marking
  pub questions : List Question
  pub answers : List Answer
  pub right : IsRight rules owned opening (world_with opening journal sites sent questions answers)
  pub may : IsEvent (world_with opening journal sites sent questions answers) event

-- the event made these parts of those, and this is sent
abbrev pub Happened : JournalState → List SiteState → List Message → WorldEvent → JournalState → List SiteState → Option Message → Type 0
Happened journal sites sent event new_journal new_sites answer = (G : Rules) (C : List Set) (M : Marking) (questions : List Question) (answers : List Answer)
    → IsRight G C M (world_with M journal sites sent questions answers)
    → happens G C (world_with M journal sites sent questions answers) event ≡ sending (world_with M new_journal new_sites sent questions answers) answer

-- a message reached a site that stands
abbrev pub Reached : List SiteState → ℕ → Message → List SiteState → Option Message → Type 0
Reached sites i message new_sites answer = (G : Rules) (S : Set) (M : Marking) (node : SiteState) → slice_get sites i ≡ Some node → StandsAt G S M node.site
    → (new_sites ≡ slice_set sites i (site_step G S node message)) × (answer ≡ replied G S node message)

-- the nodes are those of the sites, by number, and have heard of nothing
pub record AreNumbered (sites : List Seen) (nodes : List SiteState) : Type 0 where
  pub as_many : length nodes ≡ length sites
  pub each : (i : ℕ) (node : SiteState) → slice_get nodes i ≡ Some node → (slice_get sites i ≡ Some node.site) × (node.id ≡ i) × (node.count ≡ 0)
