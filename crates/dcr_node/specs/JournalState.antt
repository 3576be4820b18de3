-- The journal apart: the alphabets of the sites, the entries, and the call that was proposed. What it asks, what it tells
-- the sites, and what votes and answers do to it. It has no mark but what sites told.
use Rattle.std.specs.Prelude.{◌≡◌, ℕ, ◌<◌, Bool, ◌&&◌, ◌==◌, List, [], ◌∷◌, ◌++◌, length, nat_lt, is_none, slice_get, Option, Some, None, option_map, option_and_then, if◌then◌else◌}
use Rattle.std.specs.Option.{IfSome}
use Rattle.dcr_set.specs.EventSet.{Set, has}
use Rattle.dcr_graph.specs.Projection.{FitsAtoms}
use Rattle.dcr_graph.specs.Rows.{row}
use Rattle.dcr_graph.specs.declared.kind.Cause.TheVariants.{Excluded, Condition, Milestone}
use Rattle.dcr_proj.specs.CoverValue.{atoms_of}
use Rattle.dcr_site.specs.declared.site.Decision.{Decision}
use Rattle.dcr_site.specs.declared.site.Decision.TheVariants.{NotHere, Blocked, Enabled}
use Rattle.dcr_journal.specs.Answer.{outcome_decided, verdict_of}
use Rattle.dcr_journal.specs.JournalValue.{History}
use Rattle.dcr_journal.specs.Run.{IsInRange, made_by}
use Rattle.dcr_journal.specs.declared.call.Call.{Call}
use Rattle.dcr_journal.specs.declared.call.Call.TheVariants as call
use Rattle.dcr_journal.specs.declared.call.Entry.{Entry}
use Rattle.dcr_journal.specs.declared.call.Outcome.{Outcome}
use Rattle.dcr_journal.specs.declared.call.Outcome.TheVariants as outcome
use Rattle.dcr_wire.specs.declared.answer.Answer.{Answer}
use Rattle.dcr_wire.specs.declared.answer.Told.{Told}
use Rattle.dcr_wire.specs.declared.answer.Told.TheVariants as told
use Rattle.dcr_wire.specs.declared.message.Message.{Message}
use Rattle.dcr_wire.specs.declared.message.Message.TheVariants.{Ask, Vote, Apply}
use Rattle.dcr_wire.specs.declared.question.Asked.{Asked}
use Rattle.dcr_wire.specs.declared.question.Asked.TheVariants as asked
use Rattle.dcr_wire.specs.declared.question.Question.{Question}
use Rattle.dcr_node.specs.Gathering.{nothing_gathered, gathering, waits_told}
use Rattle.dcr_node.specs.Heard.{heard}
use Rattle.dcr_node.specs.declared.gathered.Gathered.{Gathered}
use Rattle.dcr_node.specs.declared.journal_node.Execution.{Execution}
use Rattle.dcr_node.specs.declared.journal_node.Proposal.{Proposal}

pub record JournalState : Type 0 where
  -- the alphabet of each site
  pub alphabets : List Set
  pub history : History
  -- how many sessions there are
  pub sessions : ℕ
  -- the call that was proposed and has no entry yet
  pub out : Option Proposal
  -- what each site told of the marking after the entries, where all are asked
  pub gathered : List Gathered

-- the state before any proposal
abbrev pub new_journal : List Set → ℕ → ℕ → JournalState
new_journal alphabets sessions capacity =
    let history : History = record { entries = []; capacity = capacity } in
    record { alphabets = alphabets; history = history; sessions = sessions; out = None; gathered = nothing_gathered (length alphabets) }

-- the session and the call of a proposal
abbrev pub asked_by : Proposal → ℕ × Call
asked_by p = (p.session, p.call)

-- the proposal of an execution
abbrev pub execution : ℕ → ℕ → ℕ → Proposal
execution session site event = record { session = session; call = call.Exec site event }

-- the stream of a site: the executions that were done and are of its alphabet, in order
abbrev pub stream_of : JournalState → ℕ → List ℕ
stream_of j i = heard (has (row j.alphabets i)) j.history.entries

-- the message that a call asks: an execution asks its site; the number is that of the entries, the count the length of
-- the site's stream
abbrev pub ask_for : JournalState → Call → Option Message
ask_for j (call.Exec i e) = Some (Ask (length j.history.entries) i e (length (stream_of j i)))
ask_for j (call.Look i) = None
ask_for j (call.Enabled i) = None
ask_for j call.Accepting = None

-- that of the proposal that is out
abbrev pub question : JournalState → Option Message
question j = option_and_then (λ (p : Proposal). ask_for j p.call) j.out

-- the question to a site, with the number of the entries and the length of the site's stream
abbrev pub question_at : JournalState → ℕ → Asked → Question
question_at j i asked = record { number = length j.history.entries; site = i; asked = asked; count = length (stream_of j i) }

-- what a call asks a site to tell: a look its marks and an `enabled` what may be executed, of the site that it is for, and
-- the question whether the marking is accepting of every site what it waits for
abbrev pub asks_of : Call → ℕ → Option Asked
asks_of (call.Exec i e) k = None
asks_of (call.Look i) k = if k == i then Some asked.Marks else None
asks_of (call.Enabled i) k = if k == i then Some asked.Can else None
asks_of call.Accepting k = Some asked.Waits

-- the question to a site that the proposal that is out asks
abbrev pub question_for : JournalState → ℕ → Option Question
question_for j i = option_map (question_at j i) (option_and_then (λ (p : Proposal). asks_of p.call i) j.out)

-- the execution with an index in a site's stream
abbrev pub item : JournalState → ℕ → ℕ → Option Message
item j i index = option_map (Apply i index) (slice_get (stream_of j i) index)

-- no proposal is out, and there is room for an entry
abbrev pub is_free : JournalState → Bool
is_free j = is_none j.out && nat_lt (length j.history.entries) j.history.capacity

-- the same with a proposal out, of which nothing was told
abbrev pub with_out : JournalState → Proposal → JournalState
with_out j p = record {
  alphabets = j.alphabets;
  history = j.history;
  sessions = j.sessions;
  out = Some p;
  gathered = nothing_gathered (length j.alphabets);
}

-- where it was free
abbrev pub proposed : JournalState → Proposal → JournalState
proposed j p = if is_free j then with_out j p else j

-- the same with nothing out or gathered
abbrev pub withdrawn : JournalState → JournalState
withdrawn j = record {
  alphabets = j.alphabets;
  history = j.history;
  sessions = j.sessions;
  out = None;
  gathered = nothing_gathered (length j.alphabets);
}

-- and what is asked then
abbrev pub question_of : JournalState → Proposal → Option Message
question_of j p = if is_free j then ask_for j p.call else None

-- the entry of a proposal with this outcome
abbrev pub entry_of : JournalState → Proposal → Outcome → Entry
entry_of j p outcome = record { session = p.session; seq = made_by p.session j.history.entries; call = p.call; outcome = outcome }

-- the same with one entry more, and nothing out or gathered
abbrev pub with_entry : JournalState → Entry → JournalState
with_entry j entry =
    let history : History = record { entries = j.history.entries ++ entry ∷ []; capacity = j.history.capacity } in
    record { alphabets = j.alphabets; history = history; sessions = j.sessions; out = None; gathered = nothing_gathered (length j.alphabets) }

-- the same with what sites told
abbrev pub with_gathered : JournalState → List Gathered → JournalState
with_gathered j gathered = record { alphabets = j.alphabets; history = j.history; sessions = j.sessions; out = j.out; gathered = gathered }

-- the execution that is out, where one is
abbrev pub execution_in : Proposal → Call → Option Execution
execution_in p (call.Exec i e) = Some (record { session = p.session; site = i; event = e })
execution_in p (call.Look i) = None
execution_in p (call.Enabled i) = None
execution_in p call.Accepting = None

abbrev pub execution_out : JournalState → Option Execution
execution_out j = option_and_then (λ (p : Proposal). execution_in p p.call) j.out

-- a vote of this number and this site becomes the entry of the execution that is out, where they are its own
abbrev pub voted : JournalState → ℕ → ℕ → Decision → Option Execution → JournalState
voted j number site decision None = j
voted j number site decision (Some x) =
    if (number == length j.history.entries) && (site == x.site)
    then with_entry j (entry_of j (execution x.session x.site x.event) (outcome_decided decision))
    else j

-- the state after a message: a vote may make an entry, all else changes nothing
abbrev pub journal_step : JournalState → Message → JournalState
journal_step j (Ask number site event count) = j
journal_step j (Vote number site decision) = voted j number site decision (execution_out j)
journal_step j (Apply site index event) = j

-- the entry of the proposal that is out, where this is what all sites wait for together
abbrev pub with_verdict : JournalState → Proposal → Option (Option ℕ) → JournalState
with_verdict j p None = j
with_verdict j p (Some waits) = with_entry j (entry_of j p (verdict_of waits))

-- What a site told, to a proposal of this call: a look and an `enabled` have their entry once their site told what they
-- ask; the question whether the marking is accepting has it once every site told what it waits for. All else changes
-- nothing.
abbrev pub told_to : JournalState → Proposal → ℕ → Call → Told → JournalState
told_to j p site (call.Exec i e) told = j
told_to j p site (call.Look i) (told.Marks mark) = if site == i then with_entry j (entry_of j p (outcome.Marks mark)) else j
told_to j p site (call.Look i) (told.Can events) = j
told_to j p site (call.Look i) (told.Waits event) = j
told_to j p site (call.Enabled i) (told.Marks mark) = j
told_to j p site (call.Enabled i) (told.Can events) = if site == i then with_entry j (entry_of j p (outcome.Can events)) else j
told_to j p site (call.Enabled i) (told.Waits event) = j
told_to j p site call.Accepting (told.Marks mark) = j
told_to j p site call.Accepting (told.Can events) = j
told_to j p site call.Accepting (told.Waits event) =
    let gathered = gathering j.gathered site (told.Waits event) in
    with_verdict (with_gathered j gathered) p (waits_told gathered)

-- where nothing is out, what a site told is gathered for the end
abbrev pub told_out : JournalState → ℕ → Told → Option Proposal → JournalState
told_out j site told None = with_gathered j (gathering j.gathered site told)
told_out j site told (Some p) = told_to j p site p.call told

-- the state after an answer: one of the next number is taken, no other
abbrev pub answered_to : JournalState → Answer → JournalState
answered_to j a = if a.number == length j.history.entries then told_out j a.site a.told j.out else j

-- the event of a decision's cause is below a number, where it has one
abbrev pub IsWithin : ℕ → Decision → Type 0
IsWithin atoms Enabled = Unit {0}
IsWithin atoms NotHere = Unit {0}
IsWithin atoms (Blocked Excluded) = Unit {0}
IsWithin atoms (Blocked (Condition c)) = c < atoms
IsWithin atoms (Blocked (Milestone m)) = m < atoms

-- The journal may be handed the message: where it is a vote, its site is one, and its cause's event an atom. Of other
-- messages nothing is asked.
abbrev pub JournalMayTake : JournalState → Message → Type 0
JournalMayTake j (Ask number site event count) = Unit {0}
JournalMayTake j (Vote number site decision) = (site < length j.alphabets) × IsWithin (atoms_of j.alphabets) decision
JournalMayTake j (Apply site index event) = Unit {0}

-- sets are over this many atoms, and an event is below it
abbrev pub IsOver : ℕ → Told → Type 0
IsOver atoms (told.Marks mark) = FitsAtoms atoms mark.executed mark.pending mark.included
IsOver atoms (told.Can events) = length events ≡ atoms
IsOver atoms (told.Waits event) = IfSome event (λ e. e < atoms)

-- the journal may be handed the answer: its site is one, its sets are over the atoms, and its event is one
abbrev pub JournalMayHear : JournalState → Answer → Type 0
JournalMayHear j a = (a.site < length j.alphabets) × IsOver (atoms_of j.alphabets) a.told

-- the numbers of a proposal are those of a session, of a site and of an atom
pub record IsProposal (j : JournalState) (p : Proposal) : Type 0 where
  pub session : p.session < j.sessions
  pub call : IsInRange (length j.alphabets) (atoms_of j.alphabets) p.call
