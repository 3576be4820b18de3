-- What holds of sites apart, whatever the network does.
use Rattle.std.specs.Prelude.{◌≡◌, ◌⊎◌, ℕ, ◌+◌, ◌<◌, List, length, map, filter_map, fold, slice_get, slice_set, Option, Some, None, option_map}
use Rattle.std.specs.List.{All, Contains, range_with_len}
use Rattle.dcr_set.specs.EventSet.{Set}
use Rattle.dcr_graph.specs.Rows.{row}
use Rattle.dcr_graph.specs.Rules.{Rules}
use Rattle.dcr_graph.specs.Cause.{waits}
use Rattle.dcr_graph.specs.declared.marking.Marking.{Marking}
use Rattle.dcr_graph.specs.declared.marking.SiteMark.{SiteMark}
use Rattle.dcr_journal.specs.JournalValue.{History}
use Rattle.dcr_journal.specs.Run.{IsLegal, after, marks_at, told_next}
use Rattle.dcr_journal.specs.declared.call.Call.{Call}
use Rattle.dcr_journal.specs.declared.call.Call.TheVariants.{Exec, Look, Enabled, Accepting}
use Rattle.dcr_wire.specs.declared.answer.Answer.{Answer}
use Rattle.dcr_wire.specs.declared.answer.Told.{Told}
use Rattle.dcr_wire.specs.declared.answer.Told.TheVariants as told
use Rattle.dcr_wire.specs.declared.question.Asked.{Asked}
use Rattle.dcr_wire.specs.declared.question.Asked.TheVariants.{Marks, Can, Waits}
use Rattle.dcr_node.specs.SiteState.{SiteState}
use Rattle.dcr_node.specs.Gathering.{nothing_gathered, waits_told}
use Rattle.dcr_node.specs.JournalState.{JournalState, asked_by, asks_of, execution, stream_of, with_gathered}
use Rattle.dcr_node.specs.WorldState.{WorldState, site_at, opened}
use Rattle.dcr_node.specs.Machine.{with_journal, with_site, happens, calls, Happening, IsHappening, comes, after_events}
use Rattle.dcr_node.specs.Right.{IsCase, IsRight, HeardABeginning}
use Rattle.dcr_node.specs.declared.event.CallEvent.{CallEvent}
use Rattle.dcr_node.specs.declared.event.CallEvent.TheVariants.{AskSite, DeliverQuestion, DeliverAnswer}
use Rattle.dcr_node.specs.declared.event.WorldEvent.{WorldEvent}
use Rattle.dcr_node.specs.declared.event.WorldEvent.TheVariants.{Propose, AskAgain, Item, Deliver}
use Rattle.dcr_node.specs.declared.gathered.Gathered.{Gathered}
use Rattle.dcr_node.specs.declared.journal_node.Proposal.{Proposal}

-- ---- every world is right

-- the world that a list of events makes of the one that was opened
abbrev pub world_after : Rules → List Set → Marking → ℕ → ℕ → List Happening → WorldState
world_after G C M sessions capacity events = after_events G C (opened G C M sessions capacity) events

-- the numbers of each event are those of a session, of a site and of an atom
abbrev pub AreEvents : Rules → List Set → Marking → ℕ → ℕ → List Happening → Type 0
AreEvents G C M sessions capacity events = All (IsHappening (opened G C M sessions capacity)) events

-- every world is right
abbrev pub EveryWorldIsRight : Type 0
EveryWorldIsRight = (G : Rules) (C : List Set) (M : Marking) (sessions capacity : ℕ) (events : List Happening)
    → IsCase G C M → AreEvents G C M sessions capacity events → IsRight G C M (world_after G C M sessions capacity events)

-- its journal is a run of the graph
abbrev pub EveryJournalIsLegal : Type 0
EveryJournalIsLegal = (G : Rules) (C : List Set) (M : Marking) (sessions capacity : ℕ) (events : List Happening)
    → IsCase G C M → AreEvents G C M sessions capacity events
    → IsLegal G C M (world_after G C M sessions capacity events).journal.history.entries

-- and each of its sites has heard of a beginning of the journal
abbrev pub EverySiteHeardABeginning : Type 0
EverySiteHeardABeginning = (G : Rules) (C : List Set) (M : Marking) (sessions capacity : ℕ) (events : List Happening)
    → IsCase G C M → AreEvents G C M sessions capacity events
    → (i : ℕ) (node : SiteState) → slice_get (world_after G C M sessions capacity events).sites i ≡ Some node
    → HeardABeginning G (row C i) M (world_after G C M sessions capacity events).journal.history.entries node

-- each event keeps a world right
abbrev pub EachEventKeepsRight : Type 0
EachEventKeepsRight = (G : Rules) (C : List Set) (M : Marking) (w : WorldState) (event : Happening)
    → IsRight G C M w → IsHappening w event → IsRight G C M (comes G C w event)

-- the sites of a right world have heard of a beginning of the journal
abbrev pub SitesHeardABeginning : Type 0
SitesHeardABeginning = (G : Rules) (C : List Set) (M : Marking) (w : WorldState) → IsRight G C M w
    → (i : ℕ) (node : SiteState) → slice_get w.sites i ≡ Some node → HeardABeginning G (row C i) M w.journal.history.entries node

-- a right world in which a site is put back to its beginning is right
abbrev pub ASiteMayBeginAnew : Type 0
ASiteMayBeginAnew = (G : Rules) (C : List Set) (M : Marking) (w : WorldState) (i : ℕ) → IsRight G C M w → i < length C → IsRight G C M (with_site w i (site_at G C M i))

-- ---- proposals are told

-- the event is no proposal
abbrev pub ProposesNothing : WorldEvent → Type 0
ProposesNothing (Propose session site event) = ⊥
ProposesNothing AskAgain = Unit {0}
ProposesNothing (Item site index) = Unit {0}
ProposesNothing (Deliver message) = Unit {0}

-- the journal with the entry of a proposal as the graph tells it, and nothing out
abbrev pub with_told : Rules → List Set → Marking → JournalState → Proposal → JournalState
with_told G C M j p =
    let history : History = record { entries = told_next G C M j.history.entries (asked_by p); capacity = j.history.capacity } in
    record { alphabets = j.alphabets; history = history; sessions = j.sessions; out = None; gathered = nothing_gathered (length j.alphabets) }

-- the journal stayed, or the proposal that was out has its entry, as the graph tells it
abbrev pub StayedOrTold : Rules → List Set → Marking → JournalState → JournalState → Type 0
StayedOrTold G C M before after = (after ≡ before) ⊎ ((p : Proposal) × (before.out ≡ Some p) × (after ≡ with_told G C M before p))

-- an event that proposes nothing leaves the journal, or tells the proposal that is out
abbrev pub NothingElseIsTold : Type 0
NothingElseIsTold = (G : Rules) (C : List Set) (M : Marking) (w : WorldState) (event : WorldEvent)
    → IsRight G C M w → ProposesNothing event → StayedOrTold G C M w.journal (happens G C w event).journal

-- the journal stayed but for what is gathered, or the proposal that was out has its entry, as the graph tells it
abbrev pub GatheredOrTold : Rules → List Set → Marking → JournalState → JournalState → Type 0
GatheredOrTold G C M before after =
    ((gathered : List Gathered) × (after ≡ with_gathered before gathered)) ⊎ ((p : Proposal) × (before.out ≡ Some p) × (after ≡ with_told G C M before p))

-- an answer leaves the journal, but for what is gathered, or tells the proposal that is out
abbrev pub AnAnswerTells : Type 0
AnAnswerTells = (G : Rules) (C : List Set) (M : Marking) (w : WorldState) (k : ℕ) → IsRight G C M w
    → GatheredOrTold G C M w.journal (calls G C w (DeliverAnswer k)).journal

-- what sites told at the end, where each told its marks: they are the graph's
abbrev pub TheEndsAreTheGraphs : Type 0
TheEndsAreTheGraphs = (G : Rules) (C : List Set) (M : Marking) (w : WorldState) → IsRight G C M w
    → ((marks : List SiteMark) → map (λ (g : Gathered). g.marks) w.journal.gathered ≡ map Some marks → marks ≡ marks_at G C (after G M w.journal.history.entries))
    × ((event : Option ℕ) → waits_told w.journal.gathered ≡ Some event → event ≡ waits G.atoms (after G M w.journal.history.entries))

-- where the asked site has heard of its whole stream, asking again and delivering the question and then the vote tells
-- the proposal that is out, and no site changes
abbrev pub AskingTells : Type 0
AskingTells = (G : Rules) (C : List Set) (M : Marking) (w : WorldState) (session site event : ℕ) (node : SiteState)
    → IsRight G C M w → w.journal.out ≡ Some (execution session site event) → slice_get w.sites site ≡ Some node → node.count ≡ length (stream_of w.journal site)
    → let again = happens G C w AskAgain in
    let answered = happens G C again (Deliver (length w.sent)) in
    let told = happens G C answered (Deliver (length again.sent)) in
    (told.journal ≡ with_told G C M w.journal (execution session site event)) × (told.sites ≡ w.sites)

-- ---- asking brings the answer

-- the call asks sites to tell something: it is no execution
abbrev pub AsksToTell : Call → Type 0
AsksToTell (Exec i e) = ⊥
AsksToTell (Look i) = Unit {0}
AsksToTell (Enabled i) = Unit {0}
AsksToTell Accepting = Unit {0}

-- what it is that a site told
abbrev pub what_is_told : Told → Asked
what_is_told (told.Marks mark) = Marks
what_is_told (told.Can events) = Can
what_is_told (told.Waits event) = Waits

-- at one of these places among the answers that were sent stands what a site tells of this, after all entries
pub record IsToldAt (w : WorldState) (places : List ℕ) (i : ℕ) (asked : Asked) : Type 0 where
  pub place : ℕ
  pub answer : Answer
  pub listed : Contains places place
  pub sent : slice_get w.answers place ≡ Some answer
  pub site : answer.site ≡ i
  pub number : answer.number ≡ length w.journal.history.entries
  pub kind : what_is_told answer.told ≡ asked

-- the world once these answers were delivered, in this order
abbrev pub answers_delivered : Rules → List Set → WorldState → List ℕ → WorldState
answers_delivered G C w places = fold (calls G C) w (map DeliverAnswer places)

-- Once what each site tells that the call which is out asks was delivered, in whatever order, however often, and whatever other
-- answers among it, the call has its entry, as the graph tells it; nothing else changes.
abbrev pub AllAnswersTell : Type 0
AllAnswersTell = (G : Rules) (C : List Set) (M : Marking) (w : WorldState) (p : Proposal) (places : List ℕ)
    → IsRight G C M w → w.journal.out ≡ Some p → AsksToTell p.call
    → ((i : ℕ) (asked : Asked) → i < length C → asks_of p.call i ≡ Some asked → IsToldAt w places i asked)
    → answers_delivered G C w places ≡ with_journal w (with_told G C M w.journal p)

-- what a call asks of so many sites, in their order
abbrev pub asks_all : ℕ → Call → List CallEvent
asks_all sites call = filter_map (λ i. option_map (AskSite i) (asks_of call i)) (range_with_len 0 sites)

-- each site that a call asks has heard of its whole stream
abbrev pub HaveHeardAsked : WorldState → Call → Type 0
HaveHeardAsked w call =
    (i : ℕ) (asked : Asked) (node : SiteState) → asks_of call i ≡ Some asked → slice_get w.sites i ≡ Some node → node.count ≡ length (stream_of w.journal i)

-- Where the sites that the call which is out asks have heard of their whole streams: asking each of them, delivering the
-- questions and then the answers, each in the order sent, tells the call, and no site changes.
abbrev pub AskingAllTells : Type 0
AskingAllTells = (G : Rules) (C : List Set) (M : Marking) (w : WorldState) (p : Proposal)
    → IsRight G C M w → w.journal.out ≡ Some p → AsksToTell p.call → HaveHeardAsked w p.call
    → let asks = asks_all (length w.sites) p.call in
    let asked = fold (calls G C) w asks in
    let answered = fold (calls G C) asked (map DeliverQuestion (range_with_len (length w.questions) (length asks))) in
    let told = answers_delivered G C answered (range_with_len (length w.answers) (length asks)) in
    (told.journal ≡ with_told G C M w.journal p) × (told.sites ≡ w.sites)

-- ---- sites are brought up to date

-- of how many executions each site has heard
abbrev pub counts : WorldState → List ℕ
counts w = map (λ (node : SiteState). node.count) w.sites

-- sending the next execution of a site's stream and delivering it makes the site hear of it, and changes no other site
-- and not the journal
abbrev pub AnItemIsHeard : Type 0
AnItemIsHeard = (G : Rules) (C : List Set) (M : Marking) (w : WorldState) (i : ℕ) (node : SiteState)
    → IsRight G C M w → slice_get w.sites i ≡ Some node → node.count < length (stream_of w.journal i)
    → let told = happens G C w (Item i node.count) in
    let after = happens G C told (Deliver (length w.sent)) in
    (after.journal ≡ w.journal) × (counts after ≡ slice_set (counts w) i (node.count + 1))
