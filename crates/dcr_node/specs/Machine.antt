-- What an event does to all nodes: the machine of the journal, the sites and a network that may lose, repeat and reorder
-- what was sent. A node's next state follows from its own state and one message.
use Rattle.std.specs.Prelude.{ℕ, ◌<◌, List, [], ◌∷◌, ◌++◌, fold, length, slice_get, slice_set, Option, Some, None}
use Rattle.dcr_set.specs.EventSet.{Set}
use Rattle.dcr_graph.specs.Rows.{row}
use Rattle.dcr_graph.specs.Rules.{Rules}
use Rattle.dcr_wire.specs.declared.answer.Answer.{Answer}
use Rattle.dcr_wire.specs.declared.message.Message.{Message}
use Rattle.dcr_wire.specs.declared.message.Message.TheVariants.{Ask, Vote, Apply}
use Rattle.dcr_wire.specs.declared.question.Question.{Question}
use Rattle.dcr_node.specs.SiteState.{SiteState, replied, site_step, answered}
use Rattle.dcr_node.specs.JournalState.{JournalState, execution, proposed, question_of, question, question_at, item, journal_step, answered_to}
use Rattle.dcr_node.specs.WorldState.{WorldState, site_at, IsEvent, IsCallEvent}
use Rattle.dcr_node.specs.declared.event.CallEvent.{CallEvent}
use Rattle.dcr_node.specs.declared.event.CallEvent.TheVariants.{ProposeCall, AskSite, DeliverQuestion, DeliverAnswer}
use Rattle.dcr_node.specs.declared.event.WorldEvent.{WorldEvent}
use Rattle.dcr_node.specs.declared.event.WorldEvent.TheVariants.{Propose, AskAgain, Item, Deliver}
use Rattle.dcr_node.specs.declared.journal_node.Proposal.{Proposal}

-- the world with a message more sent, where there is one
abbrev pub sending : WorldState → Option Message → WorldState
sending w None = w
sending w (Some message) = record w { sent = w.sent ++ message ∷ [] }

-- the world with another state of the journal
abbrev pub with_journal : WorldState → JournalState → WorldState
with_journal w journal = record w { journal = journal }

-- the world with another state of a site
abbrev pub with_site : WorldState → ℕ → SiteState → WorldState
with_site w i node = record w { sites = slice_set w.sites i node }

-- a message reaches a site, which may answer
abbrev pub told_site : Rules → List Set → WorldState → ℕ → Message → Option SiteState → WorldState
told_site G C w i message None = w
told_site G C w i message (Some node) =
    sending (with_site w i (site_step G (row C i) node message)) (replied G (row C i) node message)

-- a message reaches its node: a vote the journal, a question and an execution their site
abbrev pub delivered : Rules → List Set → WorldState → Message → WorldState
delivered G C w (Ask number site event count) = told_site G C w site (Ask number site event count) (slice_get w.sites site)
delivered G C w (Vote number site decision) = with_journal w (journal_step w.journal (Vote number site decision))
delivered G C w (Apply site index event) = told_site G C w site (Apply site index event) (slice_get w.sites site)

abbrev pub delivered_if : Rules → List Set → WorldState → Option Message → WorldState
delivered_if G C w None = w
delivered_if G C w (Some message) = delivered G C w message

-- the next world: a proposal sends its question; the question is sent again; the execution with an index in a site's
-- stream is sent; a message that was ever sent is delivered. An event that can't happen changes nothing.
abbrev pub happens : Rules → List Set → WorldState → WorldEvent → WorldState
happens G C w (Propose session site event) =
    let p : Proposal = execution session site event in
    sending (with_journal w (proposed w.journal p)) (question_of w.journal p)
happens G C w AskAgain = sending w (question w.journal)
happens G C w (Item site index) = sending w (item w.journal site index)
happens G C w (Deliver message) = delivered_if G C w (slice_get w.sent message)

-- ---- any call

-- the world with a question more sent
abbrev pub asking : WorldState → Question → WorldState
asking w q = record w { questions = w.questions ++ q ∷ [] }

-- the world with an answer more sent, where there is one
abbrev pub answering : WorldState → Option Answer → WorldState
answering w None = w
answering w (Some a) = record w { answers = w.answers ++ a ∷ [] }

-- a question reaches a site, which may answer
abbrev pub asked_at : Rules → List Set → WorldState → Question → Option SiteState → WorldState
asked_at G C w q None = w
asked_at G C w q (Some node) = answering w (answered G (row C q.site) node q)

abbrev pub question_delivered : Rules → List Set → WorldState → Option Question → WorldState
question_delivered G C w None = w
question_delivered G C w (Some q) = asked_at G C w q (slice_get w.sites q.site)

-- an answer reaches the journal
abbrev pub answer_delivered : WorldState → Option Answer → WorldState
answer_delivered w None = w
answer_delivered w (Some a) = with_journal w (answered_to w.journal a)

-- the next world where any call is proposed, a site is asked, or a question or an answer that was ever sent is delivered
abbrev pub calls : Rules → List Set → WorldState → CallEvent → WorldState
calls G C w (ProposeCall session call) =
    let p : Proposal = record { session = session; call = call } in
    with_journal w (proposed w.journal p)
calls G C w (AskSite site asked) = asking w (question_at w.journal site asked)
calls G C w (DeliverQuestion question) = question_delivered G C w (slice_get w.questions question)
calls G C w (DeliverAnswer answer) = answer_delivered w (slice_get w.answers answer)

-- ---- whatever happens

-- a site begins anew: with the marks of the opening, and having heard of nothing
abbrev pub begun_anew : Rules → List Set → WorldState → ℕ → WorldState
begun_anew G C w i = with_site w i (site_at G C w.opening i)

-- an event of executions, an event of any call, or a site that begins anew
pub data Happening : Type 0 where
  of_executions : WorldEvent → Happening
  of_calls : CallEvent → Happening
  begins_anew : ℕ → Happening

-- its numbers are those of a session, of a site and of an atom
abbrev pub IsHappening : WorldState → Happening → Type 0
IsHappening w (of_executions event) = IsEvent w event
IsHappening w (of_calls event) = IsCallEvent w event
IsHappening w (begins_anew site) = site < length w.sites

abbrev pub comes : Rules → List Set → WorldState → Happening → WorldState
comes G C w (of_executions event) = happens G C w event
comes G C w (of_calls event) = calls G C w event
comes G C w (begins_anew site) = begun_anew G C w site

-- the world after a list of them
abbrev pub after_events : Rules → List Set → WorldState → List Happening → WorldState
after_events G C w events = fold (comes G C) w events
