-- What a call makes of the journal apart and of the store.
use Rattle.std.proofs.Common.{◌≡◌, ℕ, ◌<◌, Bool, true, false, cond, eqb, List, [], ◌∷◌, ◌++◌, length, Option, Some, refl, sym, ap, subst, ◌∙◌}
use Rattle.std.specs.Option.{option_and_then}
use Rattle.std.proofs.lemmas.Bool.{and_from, eq-eqb}
use Rattle.std.proofs.lemmas.Option.{same_Some}
use Rattle.dcr_base.specs.Disk.{DiskView}
use Rattle.dcr_base.specs.Link.{Links}
use Rattle.dcr_cell.specs.ClusterId.{ClusterId}
use Rattle.dcr_cell.specs.Keeping.{IsToldAs, as_found, as_fault, kept_as}
use Rattle.dcr_cell.specs.Stored.{IsTaped, StoreStands, execution_of}
use Rattle.dcr_cell.proofs.StoreLemmas.{store_spared}
use Rattle.dcr_graph.specs.declared.kind.Cause.{Cause}
use Rattle.dcr_graph.specs.declared.kind.Cause.TheVariants.{Excluded, Condition, Milestone}
use Rattle.dcr_site.specs.declared.site.Decision.{Decision}
use Rattle.dcr_site.specs.declared.site.Decision.TheVariants.{NotHere, Blocked, Enabled}
use Rattle.dcr_journal.specs.Answer.{outcome_decided}
use Rattle.dcr_journal.specs.Run.{HasNoFault}
use Rattle.dcr_journal.specs.declared.call.Call.{Call}
use Rattle.dcr_journal.specs.declared.call.Call.TheVariants.{Exec}
use Rattle.dcr_journal.specs.declared.call.Entry.{Entry}
use Rattle.dcr_journal.specs.declared.call.Outcome.{Outcome}
use Rattle.dcr_journal.specs.declared.call.Outcome.TheVariants.{Done, Faulted}
use Rattle.dcr_tape.specs.declared.entry.TapeEntry.{TapeEntry}
use Rattle.dcr_tape.specs.declared.tape.Store.{Store}
use Rattle.dcr_wire.specs.Laws.{sent_message}
use Rattle.dcr_wire.specs.declared.message.Message.{Message}
use Rattle.dcr_wire.specs.declared.message.Message.TheVariants.{Ask, Vote}
use Rattle.dcr_node.specs.JournalState.{JournalState, ask_for, entry_of, execution, execution_in, journal_step, question, stream_of, voted, withdrawn, with_entry}
use Rattle.dcr_node.specs.declared.journal_node.Proposal.{Proposal}
use Rattle.dcr_node.proofs.RightLemmas.{question_is_true}
use Rattle.dcr_node.proofs.TruthLemmas.{truth_kept}
use Rattle.dcr_talk.specs.Truth.{IsTrueSent}
use Rattle.dcr_seat.specs.Asking.{IsVote}
use Rattle.dcr_seat.proofs.ToldLemmas.{entered_grows}
use Rattle.dcr_order.specs.Acts.{hears}
use Rattle.dcr_order.specs.Calling.{Rests, Enters, CallEnds, IsStoredWith}
use Rattle.dcr_order.specs.Going.{Answers}
use Rattle.dcr_order.specs.Linked.{IsLedFrom}
use Rattle.dcr_order.specs.declared.place.Place.{Place}
use Rattle.dcr_order.proofs.LedLemmas.{led_hearing}

-- ---- an execution is out

-- the message that it asks
pub ask_is : (j : JournalState) (session i e : ℕ) → j.out ≡ Some (execution session i e) → question j ≡ Some (Ask (length j.history.entries) i e (length (stream_of j i)))
ask_is j session i e out = ap (λ (o : Option Proposal). option_and_then (λ (p : Proposal). ask_for j p.call) o) out

-- the vote of its site is its entry
pub vote_enters : (j : JournalState) (session i e : ℕ) (decision : Decision) → j.out ≡ Some (execution session i e)
    → journal_step j (Vote (length j.history.entries) i decision) ≡ with_entry j (entry_of j (execution session i e) (outcome_decided decision))
vote_enters j session i e decision out =
    let n = length j.history.entries in
    let entered : JournalState = with_entry j (entry_of j (execution session i e) (outcome_decided decision)) in
    ap (λ (o : Option Proposal). voted j n i decision (option_and_then (λ (p : Proposal). execution_in p p.call) o)) out ∙ ap (λ (b : Bool). cond b entered j) (and_from (eqb n n) (eqb i i) (eq-eqb n n refl) (eq-eqb i i refl))

-- what was decided is no fault
no_fault : (decision : Decision) → outcome_decided decision ≡ Faulted → ⊥
no_fault NotHere is = cc
no_fault Enabled is = cc
no_fault (Blocked Excluded) is = cc
no_fault (Blocked (Condition c)) is = cc
no_fault (Blocked (Milestone m)) is = cc

pub call_enters : (j after : JournalState) (p : Proposal) (decision : Decision) → Enters j after p (outcome_decided decision) → CallEnds j after p (Some (outcome_decided decision))
call_enters j after p NotHere enters = enters
call_enters j after p Enabled enters = enters
call_enters j after p (Blocked Excluded) enters = enters
call_enters j after p (Blocked (Condition c)) enters = enters
call_enters j after p (Blocked (Milestone m)) enters = enters

pub entered : (j after : JournalState) (p : Proposal) (outcome : Outcome) → after ≡ with_entry j (entry_of j p outcome) → Enters j after p outcome
entered j after p outcome is = record {
  alphabets = ap (λ (k : JournalState). k.alphabets) is;
  entries = ap (λ (k : JournalState). k.history.entries) is;
  capacity = ap (λ (k : JournalState). k.history.capacity) is;
  sessions = ap (λ (k : JournalState). k.sessions) is;
  out = ap (λ (k : JournalState). k.out) is;
}

pub rested : (j after : JournalState) → after ≡ withdrawn j → Rests j after
rested j after is = record {
  alphabets = ap (λ (k : JournalState). k.alphabets) is;
  history = ap (λ (k : JournalState). k.history) is;
  sessions = ap (λ (k : JournalState). k.sessions) is;
  out = ap (λ (k : JournalState). k.out) is;
}

-- the vote is handed to the journal
pub led_voting : {L R : Type 0} (each : Links L R) (links : Option (List L)) (before : Option (List (ℕ × R))) (greets : ℕ → List ℕ → List ℕ → Type 0) (c : ClusterId) (first j : JournalState)
    (places after : List (Place L)) (back : Option (List (ℕ × R))) (session i e : ℕ) (ask vote : Message) (decision : Decision) → i < length c.owned → j.out ≡ Some (execution session i e)
    → Some ask ≡ question j → vote ≡ Vote (length j.history.entries) i decision → Answers each j i (sent_message ask) (sent_message vote) places after
    → IsLedFrom each links before greets c first j places back → IsLedFrom each links before greets c first (journal_step j vote) after back
led_voting each links before greets c first j places after back session i e ask vote decision below out asked voted_so answers led =
    let n = length j.history.entries in
    let p = execution session i e in
    let outcome = outcome_decided decision in
    let entry = entry_of j p outcome in
    let step : journal_step j vote ≡ with_entry j entry = ap (journal_step j) voted_so ∙ vote_enters j session i e decision out in
    let message : Message = Ask n i e (length (stream_of j i)) in
    let same : message ≡ ask = sym (same_Some ask message (asked ∙ ask_is j session i e out)) in
    let is = question_is_true c.rules c.owned c.opening j p i e out refl in
    let is_then = truth_kept j (withdrawn (with_entry j entry)) (entered_grows j p outcome out) c.rules c.owned c.opening message is in
    let hearing = led_hearing each links before greets c first j places back led.0 led.1 i after (sent_message message) (sent_message vote) (entry ∷ []) below
    (subst (λ (m : Message). Answers each j i (sent_message m) (sent_message vote) places after) (sym same) answers)
    (ap (λ (k : JournalState). k.alphabets) step) (ap (λ (k : JournalState). k.history.entries) step) (refl, refl) refl refl is
    (subst (λ (k : JournalState). IsTrueSent c.rules c.owned c.opening (withdrawn k) (sent_message message)) (sym step) is_then) in
    (led.0 ++ hears hearing.0 ∷ [], hearing.1)

-- the same by equations
pub voting_from : {L R : Type 0} (each : Links L R) (links : Option (List L)) (before : Option (List (ℕ × R))) (greets : ℕ → List ℕ → List ℕ → Type 0) (c : ClusterId) (first j mid after_j : JournalState)
    (places after : List (Place L)) (back : Option (List (ℕ × R))) (i e : ℕ) (ask vote : Message) → i < length c.owned → ((session : ℕ) × (j.out ≡ Some (execution session i e)))
    → Some ask ≡ question j → IsVote j i vote → Answers each j i (sent_message ask) (sent_message vote) places after → mid ≡ j → after_j ≡ journal_step mid vote
    → IsLedFrom each links before greets c first j places back → IsLedFrom each links before greets c first after_j after back
voting_from each links before greets c first j mid after_j places after back i e ask vote below out asked is answers same step led =
    subst (λ (k : JournalState). IsLedFrom each links before greets c first k after back) (sym (step ∙ ap (λ (k : JournalState). journal_step k vote) same))
    (led_voting each links before greets c first j places after back out.0 i e ask vote is.decision below out.1 asked is.is answers led)

pub vote_ends : (j mid after : JournalState) (session i e : ℕ) (vote : Message) (is : IsVote j i vote) (decided : Decision) (outcome : Outcome) → j.out ≡ Some (execution session i e)
    → after ≡ journal_step mid vote → mid ≡ j → decided ≡ is.decision → outcome ≡ outcome_decided decided → CallEnds j after (execution session i e) (Some outcome)
vote_ends j mid after session i e vote is decided outcome out step same decides tells =
    let p = execution session i e in
    let all : after ≡ with_entry j (entry_of j p (outcome_decided is.decision)) =
    step ∙ ap (λ (k : JournalState). journal_step k vote) same ∙ ap (journal_step j) is.is ∙ vote_enters j session i e is.decision out in
    subst (λ (o : Outcome). CallEnds j after p (Some o)) (sym (tells ∙ ap outcome_decided decides))
    (call_enters j after p is.decision (entered j after p (outcome_decided is.decision) all))

-- ---- the store

-- what is decided, and is no execution that can be done, leaves the store
not_done : (decision : Decision) (call : Call) → (decision ≡ Enabled → ⊥) → execution_of call (outcome_decided decision) ≡ []
not_done NotHere (Exec i e) other = refl
not_done Enabled call other = absurd (other refl)
not_done (Blocked Excluded) (Exec i e) other = refl
not_done (Blocked (Condition c)) (Exec i e) other = refl
not_done (Blocked (Milestone m)) (Exec i e) other = refl
not_done decision call other = refl

-- two decisions that can't be carried out
pub not_here_undone : (decision : Decision) → decision ≡ NotHere → decision ≡ Enabled → ⊥
not_here_undone decision is same = apart (sym is ∙ same)
  where
    apart : NotHere ≡ Enabled → ⊥
    apart is = cc

pub blocked_undone : (decision : Decision) (why : Cause) → decision ≡ Blocked why → decision ≡ Enabled → ⊥
blocked_undone decision why is same = apart (sym is ∙ same)
  where
    apart : Blocked why ≡ Enabled → ⊥
    apart is = cc

pub stored_undone : {D : Type 0} (view : D → DiskView) (faults : D → ℕ) (first : Option (Store D)) (old : List TapeEntry) (store : Store D) (i e : ℕ) (decision : Decision) → (decision ≡ Enabled → ⊥)
    → IsStoredWith view faults first old store store (Exec i e) (Some (outcome_decided decision))
stored_undone view faults first old store i e decision other = λ J stands none. (
  λ fault. absurd (no_fault decision fault),
  λ entry call outcome.
      store_spared view faults old J entry none first store (λ fault. no_fault decision (sym outcome ∙ fault)) (ap (execution_of entry.call) outcome ∙ not_done decision entry.call other) stands,
)

-- what was told as a fault is on a tape
on_tape : {D : Type 0} (first : Option (Store D)) (told : Outcome) → IsToldAs first Done told → told ≡ Faulted → IsTaped first
on_tape first told (as_found same) fault = absurd (done_or_fault (sym same ∙ fault))
  where
    done_or_fault : Done ≡ Faulted → ⊥
    done_or_fault is = cc
on_tape first told (as_fault taped done is) fault = taped

-- an execution that can be done is kept, or it is told as a fault
kept_outcome : (kept : Bool) → cond kept (outcome_decided Enabled) Faulted ≡ kept_as kept
kept_outcome true = refl
kept_outcome false = refl

pub stored_done : {D : Type 0} (view : D → DiskView) (faults : D → ℕ) (first : Option (Store D)) (old : List TapeEntry) (store after : Store D) (i e : ℕ) (kept : Bool)
    → ((J : List Entry) → StoreStands view faults first old J store → IsToldAs first Done (kept_as kept))
    → ((J : List Entry) (entry : Entry) → StoreStands view faults first old J store → HasNoFault J → entry.call ≡ Exec i e → entry.outcome ≡ kept_as kept → StoreStands view faults first old (J ++ entry ∷ []) after)
    → IsStoredWith view faults first old store after (Exec i e) (Some (cond kept (outcome_decided Enabled) Faulted))
stored_done view faults first old store after i e kept told stands_then = λ J stands none. (
  λ fault. on_tape first (kept_as kept) (told J stands) (sym (kept_outcome kept) ∙ fault),
  λ entry call outcome. stands_then J entry stands none call (outcome ∙ kept_outcome kept),
)
