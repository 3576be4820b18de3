-- What no event changes.
use Rattle.std.proofs.Common.{◌≡◌, ℕ, Bool, true, false, ◌&&◌, cond, eqb, List, [], ◌∷◌, length, Option, Some, None, refl, sym, ap, subst, ◌∙◌, arith, length-set}
use Rattle.std.specs.Prelude.{slice_get}
use Rattle.std.proofs.lemmas.List.{length-append}
use Rattle.dcr_set.specs.EventSet.{Set}
use Rattle.dcr_graph.specs.Rows.{row}
use Rattle.dcr_graph.specs.Rules.{Rules}
use Rattle.dcr_proj.specs.CoverValue.{atoms_of}
use Rattle.dcr_journal.specs.Answer.{outcome_decided}
use Rattle.dcr_journal.specs.Run.{IsInRange}
use Rattle.dcr_journal.specs.declared.call.Call.{Call}
use Rattle.dcr_journal.specs.declared.call.Call.TheVariants as call
use Rattle.dcr_journal.specs.declared.call.Entry.{Entry}
use Rattle.dcr_journal.specs.declared.call.Outcome.TheVariants as outcome
use Rattle.dcr_site.specs.declared.site.Decision.{Decision}
use Rattle.dcr_wire.specs.declared.answer.Answer.{Answer}
use Rattle.dcr_wire.specs.declared.answer.Told.{Told}
use Rattle.dcr_wire.specs.declared.answer.Told.TheVariants as told
use Rattle.dcr_wire.specs.declared.message.Message.{Message}
use Rattle.dcr_wire.specs.declared.message.Message.TheVariants.{Ask, Vote, Apply}
use Rattle.dcr_wire.specs.declared.question.Question.{Question}
use Rattle.dcr_node.specs.Gathering.{gathering, waits_told}
use Rattle.dcr_node.specs.SiteState.{SiteState, replied, site_step, answered}
use Rattle.dcr_node.specs.JournalState.{JournalState, execution, execution_out, is_free, with_out, proposed, question, question_at, question_of, item, entry_of, with_entry, with_gathered, with_verdict, told_to, told_out, answered_to, voted}
use Rattle.dcr_node.specs.WorldState.{WorldState, site_at, IsEvent, IsCallEvent, IsKept}
use Rattle.dcr_node.specs.Machine.{sending, with_journal, with_site, told_site, delivered, delivered_if, happens, asking, answering, asked_at, question_delivered, answer_delivered, calls, begun_anew, Happening, of_executions, of_calls, begins_anew, IsHappening, comes}
use Rattle.dcr_node.specs.declared.event.CallEvent.{CallEvent}
use Rattle.dcr_node.specs.declared.event.CallEvent.TheVariants.{ProposeCall, AskSite, DeliverQuestion, DeliverAnswer}
use Rattle.dcr_node.specs.declared.event.WorldEvent.{WorldEvent}
use Rattle.dcr_node.specs.declared.event.WorldEvent.TheVariants.{Propose, AskAgain, Item, Deliver}
use Rattle.dcr_node.specs.declared.gathered.Gathered.{Gathered}
use Rattle.dcr_node.specs.declared.journal_node.Execution.{Execution}
use Rattle.dcr_node.specs.declared.journal_node.Proposal.{Proposal}

-- of the journal
record StaysOver (before after : JournalState) : Type 0 where
  alphabets : after.alphabets ≡ before.alphabets
  sessions : after.sessions ≡ before.sessions
  capacity : after.history.capacity ≡ before.history.capacity

stays : (j : JournalState) → StaysOver j j
stays j = record { alphabets = refl; sessions = refl; capacity = refl }

proposed_stays : (j : JournalState) (p : Proposal) (b : Bool) → StaysOver j (cond b (with_out j p) j)
proposed_stays j p true = record { alphabets = refl; sessions = refl; capacity = refl }
proposed_stays j p false = stays j

entry_stays : (j : JournalState) (entry : Entry) → StaysOver j (with_entry j entry)
entry_stays j entry = record { alphabets = refl; sessions = refl; capacity = refl }

entry_if_stays : (j : JournalState) (entry : Entry) (b : Bool) → StaysOver j (cond b (with_entry j entry) j)
entry_if_stays j entry true = entry_stays j entry
entry_if_stays j entry false = stays j

voted_stays : (j : JournalState) (number site : ℕ) (d : Decision) (o : Option Execution) → StaysOver j (voted j number site d o)
voted_stays j number site d None = stays j
voted_stays j number site d (Some p) =
    entry_if_stays j (entry_of j (execution p.session p.site p.event) (outcome_decided d)) (eqb number (length j.history.entries) && eqb site p.site)

gathered_stays : (j : JournalState) (gathered : List Gathered) → StaysOver j (with_gathered j gathered)
gathered_stays j gathered = record { alphabets = refl; sessions = refl; capacity = refl }

verdict_stays : (j : JournalState) (gathered : List Gathered) (p : Proposal) (o : Option (Option ℕ)) → StaysOver j (with_verdict (with_gathered j gathered) p o)
verdict_stays j gathered p None = gathered_stays j gathered
verdict_stays j gathered p (Some event) = record { alphabets = refl; sessions = refl; capacity = refl }

told_to_stays : (j : JournalState) (p : Proposal) (site : ℕ) (call : Call) (t : Told) → StaysOver j (told_to j p site call t)
told_to_stays j p site (call.Exec i e) t = stays j
told_to_stays j p site (call.Look i) (told.Marks mark) = entry_if_stays j (entry_of j p (outcome.Marks mark)) (eqb site i)
told_to_stays j p site (call.Look i) (told.Can events) = stays j
told_to_stays j p site (call.Look i) (told.Waits event) = stays j
told_to_stays j p site (call.Enabled i) (told.Marks mark) = stays j
told_to_stays j p site (call.Enabled i) (told.Can events) = entry_if_stays j (entry_of j p (outcome.Can events)) (eqb site i)
told_to_stays j p site (call.Enabled i) (told.Waits event) = stays j
told_to_stays j p site call.Accepting (told.Marks mark) = stays j
told_to_stays j p site call.Accepting (told.Can events) = stays j
told_to_stays j p site call.Accepting (told.Waits event) =
    let g = gathering j.gathered site (told.Waits event) in verdict_stays j g p (waits_told g)

told_out_stays : (j : JournalState) (site : ℕ) (t : Told) (o : Option Proposal) → StaysOver j (told_out j site t o)
told_out_stays j site t None = gathered_stays j (gathering j.gathered site t)
told_out_stays j site t (Some p) = told_to_stays j p site p.call t

answered_stays : (j : JournalState) (a : Answer) → StaysOver j (answered_to j a)
answered_stays j a = by_number (eqb a.number (length j.history.entries))
  where
    by_number : (b : Bool) → StaysOver j (cond b (told_out j a.site a.told j.out) j)
    by_number true = told_out_stays j a.site a.told j.out
    by_number false = stays j

-- of the world
pub kept : (w : WorldState) → IsKept w w
kept w = record { opening = refl; alphabets = refl; sessions = refl; capacity = refl; sites = refl; sent = omega arith }

pub kept_further : (a b c : WorldState) → IsKept a b → IsKept b c → IsKept a c
kept_further a b c first second = record {
  opening = second.opening ∙ first.opening;
  alphabets = second.alphabets ∙ first.alphabets;
  sessions = second.sessions ∙ first.sessions;
  capacity = second.capacity ∙ first.capacity;
  sites = second.sites ∙ first.sites;
  sent = let early = first.sent in let late = second.sent in omega arith;
}

sending_keeps : (w : WorldState) (o : Option Message) → IsKept w (sending w o)
sending_keeps w None = kept w
sending_keeps w (Some message) = record {
  opening = refl;
  alphabets = refl;
  sessions = refl;
  capacity = refl;
  sites = refl;
  sent = let room = length-append w.sent (message ∷ []) in omega arith;
}

journal_keeps : (w : WorldState) (j : JournalState) → StaysOver w.journal j → IsKept w (with_journal w j)
journal_keeps w j same = record { opening = refl; alphabets = same.alphabets; sessions = same.sessions; capacity = same.capacity; sites = refl; sent = omega arith }

site_keeps : (w : WorldState) (i : ℕ) (node : SiteState) → IsKept w (with_site w i node)
site_keeps w i node = record { opening = refl; alphabets = refl; sessions = refl; capacity = refl; sites = length-set w.sites i node; sent = omega arith }

told_keeps : (G : Rules) (C : List Set) (w : WorldState) (i : ℕ) (message : Message) (o : Option SiteState) → IsKept w (told_site G C w i message o)
told_keeps G C w i message None = kept w
told_keeps G C w i message (Some node) =
    let next = with_site w i (site_step G (row C i) node message) in
    kept_further w next (sending next (replied G (row C i) node message)) (site_keeps w i (site_step G (row C i) node message)) (sending_keeps next (replied G (row C i) node message))

delivered_keeps : (G : Rules) (C : List Set) (w : WorldState) (message : Message) → IsKept w (delivered G C w message)
delivered_keeps G C w (Ask number site event count) = told_keeps G C w site (Ask number site event count) (slice_get w.sites site)
delivered_keeps G C w (Vote number site d) = journal_keeps w (voted w.journal number site d (execution_out w.journal)) (voted_stays w.journal number site d (execution_out w.journal))
delivered_keeps G C w (Apply site index event) = told_keeps G C w site (Apply site index event) (slice_get w.sites site)

delivered_if_keeps : (G : Rules) (C : List Set) (w : WorldState) (o : Option Message) → IsKept w (delivered_if G C w o)
delivered_if_keeps G C w None = kept w
delivered_if_keeps G C w (Some message) = delivered_keeps G C w message

pub happens_keeps : (G : Rules) (C : List Set) (w : WorldState) (event : WorldEvent) → IsKept w (happens G C w event)
happens_keeps G C w (Propose session site event) =
    let p : Proposal = execution session site event in
    let next = with_journal w (proposed w.journal p) in
    kept_further w next (sending next (question_of w.journal p)) (journal_keeps w (proposed w.journal p) (proposed_stays w.journal p (is_free w.journal))) (sending_keeps next (question_of w.journal p))
happens_keeps G C w AskAgain = sending_keeps w (question w.journal)
happens_keeps G C w (Item site index) = sending_keeps w (item w.journal site index)
happens_keeps G C w (Deliver k) = delivered_if_keeps G C w (slice_get w.sent k)

asking_keeps : (w : WorldState) (q : Question) → IsKept w (asking w q)
asking_keeps w q = record { opening = refl; alphabets = refl; sessions = refl; capacity = refl; sites = refl; sent = omega arith }

answering_keeps : (w : WorldState) (o : Option Answer) → IsKept w (answering w o)
answering_keeps w None = kept w
answering_keeps w (Some a) = record { opening = refl; alphabets = refl; sessions = refl; capacity = refl; sites = refl; sent = omega arith }

asked_at_keeps : (G : Rules) (C : List Set) (w : WorldState) (q : Question) (o : Option SiteState) → IsKept w (asked_at G C w q o)
asked_at_keeps G C w q None = kept w
asked_at_keeps G C w q (Some node) = answering_keeps w (answered G (row C q.site) node q)

question_keeps : (G : Rules) (C : List Set) (w : WorldState) (o : Option Question) → IsKept w (question_delivered G C w o)
question_keeps G C w None = kept w
question_keeps G C w (Some q) = asked_at_keeps G C w q (slice_get w.sites q.site)

answer_keeps : (w : WorldState) (o : Option Answer) → IsKept w (answer_delivered w o)
answer_keeps w None = kept w
answer_keeps w (Some a) = journal_keeps w (answered_to w.journal a) (answered_stays w.journal a)

pub calls_keep : (G : Rules) (C : List Set) (w : WorldState) (event : CallEvent) → IsKept w (calls G C w event)
calls_keep G C w (ProposeCall session call) =
    let p : Proposal = record { session = session; call = call } in
    journal_keeps w (proposed w.journal p) (proposed_stays w.journal p (is_free w.journal))
calls_keep G C w (AskSite site asked) = asking_keeps w (question_at w.journal site asked)
calls_keep G C w (DeliverQuestion k) = question_keeps G C w (slice_get w.questions k)
calls_keep G C w (DeliverAnswer k) = answer_keeps w (slice_get w.answers k)

pub begun_keeps : (G : Rules) (C : List Set) (w : WorldState) (i : ℕ) → IsKept w (begun_anew G C w i)
begun_keeps G C w i = site_keeps w i (site_at G C w.opening i)

pub comes_keeps : (G : Rules) (C : List Set) (w : WorldState) (event : Happening) → IsKept w (comes G C w event)
comes_keeps G C w (of_executions event) = happens_keeps G C w event
comes_keeps G C w (of_calls event) = calls_keep G C w event
comes_keeps G C w (begins_anew i) = begun_keeps G C w i

-- so the numbers of an event stay those of a session, of a site and of an atom
pub event_kept : (before after : WorldState) → IsKept before after → (event : WorldEvent) → IsEvent before event → IsEvent after event
event_kept before after same (Propose session site event) is = (
  (let sessions = same.sessions in let below = is.0 in omega arith),
  (let sites = same.sites in let below = is.1 in omega arith),
  (let atoms : atoms_of after.journal.alphabets ≡ atoms_of before.journal.alphabets = ap atoms_of same.alphabets in let below = is.2 in omega arith),
)
event_kept before after same AskAgain is = tt
event_kept before after same (Item site index) is = let sites = same.sites in omega arith
event_kept before after same (Deliver k) is = tt

call_event_kept : (before after : WorldState) → IsKept before after → (event : CallEvent) → IsCallEvent before event → IsCallEvent after event
call_event_kept before after same (ProposeCall session call) is = (
  (let sessions = same.sessions in let below = is.0 in omega arith),
  subst (λ n. IsInRange n (atoms_of after.journal.alphabets) call) (sym same.sites)
      (subst (λ A. IsInRange (length before.sites) (atoms_of A) call) (sym same.alphabets) is.1),
)
call_event_kept before after same (AskSite site asked) is = let sites = same.sites in omega arith
call_event_kept before after same (DeliverQuestion k) is = tt
call_event_kept before after same (DeliverAnswer k) is = tt

pub happening_kept : (before after : WorldState) → IsKept before after → (event : Happening) → IsHappening before event → IsHappening after event
happening_kept before after same (of_executions event) is = event_kept before after same event is
happening_kept before after same (of_calls event) is = call_event_kept before after same event is
happening_kept before after same (begins_anew i) is = let sites = same.sites in omega arith
