-- All nodes together, and every message, question and answer that was sent.
use Rattle.std.specs.Prelude.{◌≡◌, ℕ, ◌<◌, ◌≤◌, List, [], map, length, slice_get, Some}
use Rattle.std.specs.List.{range_with_len}
use Rattle.dcr_set.specs.EventSet.{Set, those}
use Rattle.dcr_graph.specs.Rows.{row}
use Rattle.dcr_graph.specs.Rules.{Rules}
use Rattle.dcr_graph.specs.Projection.{in_alphabet, project}
use Rattle.dcr_graph.specs.declared.marking.Marking.{Marking}
use Rattle.dcr_proj.specs.CoverValue.{atoms_of}
use Rattle.dcr_proj.specs.Local.{projection_of}
use Rattle.dcr_journal.specs.Run.{IsInRange}
use Rattle.dcr_site.specs.Seen.{Seen}
use Rattle.dcr_wire.specs.declared.answer.Answer.{Answer}
use Rattle.dcr_wire.specs.declared.message.Message.{Message}
use Rattle.dcr_wire.specs.declared.question.Question.{Question}
use Rattle.dcr_node.specs.SiteState.{SiteState, new_site}
use Rattle.dcr_node.specs.JournalState.{JournalState, new_journal, stream_of}
use Rattle.dcr_node.specs.declared.event.CallEvent.{CallEvent}
use Rattle.dcr_node.specs.declared.event.CallEvent.TheVariants.{ProposeCall, AskSite, DeliverQuestion, DeliverAnswer}
use Rattle.dcr_node.specs.declared.event.WorldEvent.{WorldEvent}
use Rattle.dcr_node.specs.declared.event.WorldEvent.TheVariants.{Propose, AskAgain, Item, Deliver}

pub record WorldState : Type 0 where
  -- the marking that all began with
  pub opening : Marking
  pub journal : JournalState
  pub sites : List SiteState
  -- every message that was sent, in order
  pub sent : List Message
  -- every question and every answer that was sent, in order
  pub questions : List Question
  pub answers : List Answer

-- the site with this number at a marking
abbrev pub site_at : Rules → List Set → Marking → ℕ → SiteState
site_at G C M i =
    let site : Seen = record { projection = projection_of G (row C i); mark = project G (row C i) M } in
    new_site i site

-- the alphabets of the sites that own these sets
abbrev pub alphabets_over : Rules → List Set → List Set
alphabets_over G C = map (λ S. those G.atoms (in_alphabet G S)) C

-- the world before any event
abbrev pub opened : Rules → List Set → Marking → ℕ → ℕ → WorldState
opened G C M sessions capacity = record {
  opening = M;
  journal = new_journal (alphabets_over G C) sessions capacity;
  sites = map (site_at G C M) (range_with_len 0 (length C));
  sent = [];
  questions = [];
  answers = [];
}

-- the numbers of an event are those of a session, of a site and of an atom; the index of an item and the number of a
-- message may be any
abbrev pub IsEvent : WorldState → WorldEvent → Type 0
IsEvent w (Propose session site event) = (session < w.journal.sessions) × (site < length w.sites) × (event < atoms_of w.journal.alphabets)
IsEvent w AskAgain = Unit {0}
IsEvent w (Item site index) = site < length w.sites
IsEvent w (Deliver message) = Unit {0}

-- the same of an event of any call
abbrev pub IsCallEvent : WorldState → CallEvent → Type 0
IsCallEvent w (ProposeCall session call) = (session < w.journal.sessions) × IsInRange (length w.sites) (atoms_of w.journal.alphabets) call
IsCallEvent w (AskSite site asked) = site < length w.sites
IsCallEvent w (DeliverQuestion question) = Unit {0}
IsCallEvent w (DeliverAnswer answer) = Unit {0}

-- what no event changes, and that no message is lost from the list
pub record IsKept (before after : WorldState) : Type 0 where
  pub opening : after.opening ≡ before.opening
  pub alphabets : after.journal.alphabets ≡ before.journal.alphabets
  pub sessions : after.journal.sessions ≡ before.journal.sessions
  pub capacity : after.journal.history.capacity ≡ before.journal.history.capacity
  pub sites : length after.sites ≡ length before.sites
  pub sent : length before.sent ≤ length after.sent

-- each site has heard of its whole stream
abbrev pub HaveHeardAll : WorldState → Type 0
HaveHeardAll w = (i : ℕ) (node : SiteState) → slice_get w.sites i ≡ Some node → node.count ≡ length (stream_of w.journal i)
