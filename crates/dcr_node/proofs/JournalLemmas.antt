-- The parts of a journal node as an entry comes: its streams, and how many entries each session has.
use Rattle.std.proofs.Common.{◌≡◌, ℕ, ◌+◌, ◌<◌, ◌≤◌, Bool, true, false, cond, eqb, List, [], ◌∷◌, ◌++◌, length, get_or, set, take, Some, None, inl, inr, refl, sym, ap, ◌∙◌, arith, length-set}
use Rattle.std.specs.Prelude.{slice_get}
use Rattle.std.proofs.lemmas.Bool.{cases_eq, eq-eqb, ne_eqb}
use Rattle.std.proofs.lemmas.List.{append-nil, length-replicate, get_or-replicate, get_or-set_same, get_or-set_other}
use Rattle.std.proofs.lemmas.List.Sums.{sum_by_push, count_by-le-length}
use Rattle.std.proofs.lemmas.Option.{slice_get_within, get_or_from_slice_get}
use Rattle.dcr_set.specs.EventSet.{Set, has}
use Rattle.dcr_graph.specs.Rows.{row}
use Rattle.dcr_graph.specs.declared.kind.Cause.TheVariants as why
use Rattle.dcr_journal.specs.Answer.{outcome_decided}
use Rattle.dcr_journal.specs.Run.{event_done, made_by, touches}
use Rattle.dcr_journal.specs.declared.call.Call.TheVariants.{Exec}
use Rattle.dcr_journal.specs.declared.call.Entry.{Entry}
use Rattle.dcr_journal.specs.declared.call.Outcome.{Outcome}
use Rattle.dcr_run.proofs.HearingLemmas.{HeardBy, heard_by_all}
use Rattle.dcr_proj.specs.NetworkValue.{participants_of}
use Rattle.dcr_site.specs.declared.site.Decision.{Decision}
use Rattle.dcr_site.specs.declared.site.Decision.TheVariants.{NotHere, Blocked, Enabled}
use Rattle.dcr_node.specs.Heard.{heard}
use Rattle.dcr_node.specs.JournalState.{JournalState, execution, stream_of, entry_of, with_entry}
use Rattle.dcr_node.specs.JournalNodeModel.{IsStream}
use Rattle.dcr_node.specs.StreamValue.{StreamValue}
use Rattle.dcr_node.specs.Streams.{new_streams, HaveRoom, told_of, IsLonger, AreTold}
use Rattle.dcr_node.specs.declared.journal_node.Execution.{Execution}
use Rattle.dcr_node.specs.declared.journal_node.Proposal.{Proposal}
use Rattle.dcr_node.proofs.HeardLemmas.{heard_of, heard_push, length-heard}

-- no more is heard than there are entries
pub heard_room : (alphabet : ℕ → Bool) (J : List Entry) → length (heard alphabet J) ≤ length J
heard_room alphabet J = let few : touches alphabet J ≤ length J = count_by-le-length _ J in let same = length-heard alphabet J in omega arith

-- ---- streams

-- what a site is told of a decision is what it hears of its entry
told_is_heard : (alphabet : Set) (site e : ℕ) (d : Decision) → heard_of (has alphabet) (event_done (Exec site e) (outcome_decided d)) ≡ told_of alphabet e d
told_is_heard alphabet site e Enabled = refl
told_is_heard alphabet site e NotHere = refl
told_is_heard alphabet site e (Blocked why.Excluded) = refl
told_is_heard alphabet site e (Blocked (why.Condition c)) = refl
told_is_heard alphabet site e (Blocked (why.Milestone m)) = refl

-- each stream is its site's
abbrev pub AreStreams : JournalState → List StreamValue → Type 0
AreStreams j streams = (i : ℕ) (stream : StreamValue) → slice_get streams i ≡ Some stream → IsStream j i stream

-- and so it stays as an entry comes and its streams are told
pub streams_more : (j : JournalState) (p : Execution) (d : Decision) (before after : List StreamValue) → AreStreams j before → AreTold j.alphabets p.event d before after
    → AreStreams (with_entry j (entry_of j (execution p.session p.site p.event) (outcome_decided d))) after
streams_more j p d before after are told = λ i new is.
    let was = told.each i new is in
    let old = are i was.0 was.1 in
    let A = row j.alphabets i in
    record {
      events =
          was.2.events
          ∙ ap (λ es. es ++ told_of A p.event d) old.events
          ∙ ap (λ es. stream_of j i ++ es) (sym (told_is_heard A p.site p.event d))
          ∙ sym (heard_push (has A) j.history.entries (entry_of j (execution p.session p.site p.event) (outcome_decided d)));
      room = was.2.room ∙ old.room;
    }

-- an entry that is no execution done is told to no stream
pub streams_same : (j : JournalState) (p : Proposal) (outcome : Outcome) (streams : List StreamValue) → event_done p.call outcome ≡ None → AreStreams j streams
    → AreStreams (with_entry j (entry_of j p outcome)) streams
streams_same j p outcome streams quiet are = λ i stream is.
    let was = are i stream is in
    let A = has (row j.alphabets i) in
    record {
      events =
          was.events
          ∙ sym (heard_push A j.history.entries (entry_of j p outcome) ∙ ap (λ o. stream_of j i ++ heard_of A o) quiet ∙ append-nil (stream_of j i));
      room = was.room;
    }

pub streams_new : (j : JournalState) (sites : ℕ) → j.history.entries ≡ [] → AreStreams j (new_streams sites j.history.capacity)
streams_new j sites none = λ i stream is.
    let empty : StreamValue = record { events = []; room = j.history.capacity } in
    let below : i < sites = (let within = slice_get_within (new_streams sites j.history.capacity) i stream is in let many = length-replicate sites empty in omega arith) in
    let same : empty ≡ stream = sym (get_or-replicate sites i empty stream below) ∙ get_or_from_slice_get (new_streams sites j.history.capacity) i stream stream is in
    record {
      events = ap (λ (s : StreamValue). s.events) (sym same) ∙ ap (heard (has (row j.alphabets i))) (sym none);
      room = ap (λ (s : StreamValue). s.room) (sym same);
    }

-- where there is room for an entry more there is room in each stream
pub streams_have_room : (j : JournalState) (streams : List StreamValue) → AreStreams j streams → length j.history.entries < j.history.capacity → HaveRoom streams
streams_have_room j streams are room = λ i stream is.
    let at = are i stream is in
    let most = heard_room (has (row j.alphabets i)) j.history.entries in
    let long : length stream.events ≡ length (stream_of j i) = ap (λ es. length es) at.events in
    let place = at.room in omega arith

-- each participant was told of the event, and no other site
pub told_each : (alphabets : List Set) (e k : ℕ) (list : List ℕ) (before after : List StreamValue) → length list ≤ k → list ≡ participants_of alphabets e
    → HeardBy (IsLonger (e ∷ [])) (take k list) before after → AreTold alphabets e Enabled before after
told_each alphabets e k list before after all is so_far = record {
  as_many = so_far.as_many;
  each = λ i new found.
      let was = heard_by_all (IsLonger (e ∷ [])) alphabets e k list before after all is so_far i new found in
      (was.0, was.1, by_hearing (has (row alphabets i) e) was.0 new (λ h. was.2 h) (λ h. was.3 h) refl);
}
  where
    by_hearing : (b : Bool) (old new : StreamValue) → (b ≡ true → IsLonger (e ∷ []) old new) → (b ≡ false → new ≡ old) → b ≡ b → IsLonger (cond b (e ∷ []) []) old new
    by_hearing true old new longer same h = longer refl
    by_hearing false old new longer same h = record { events = ap (λ (s : StreamValue). s.events) (same refl) ∙ sym (append-nil old.events); room = ap (λ (s : StreamValue). s.room) (same refl) }

-- ---- the entries of each session

-- how many entries each session has is known
abbrev pub AreMade : List Entry → List ℕ → Type 0
AreMade J made = (k : ℕ) → k < length made → get_or made k 0 ≡ made_by k J

pub made_more : (J : List Entry) (made : List ℕ) (entry : Entry) (n : ℕ) → AreMade J made → entry.session < length made → n ≡ made_by entry.session J
    → AreMade (J ++ entry ∷ []) (set made entry.session (n + 1))
made_more J made entry n are below is = λ k within.
    let room = length-set made entry.session (n + 1) in
    let more : made_by k (J ++ entry ∷ []) ≡ made_by k J + cond (eqb entry.session k) 1 0 = sum_by_push (λ (x : Entry). cond (eqb x.session k) 1 0) J entry in
    elim (cases_eq k entry.session) [
      | inl same ↦
          ap (λ m. get_or (set made entry.session (n + 1)) m 0) same ∙ get_or-set_same made entry.session (n + 1) 0 below
          ∙ ap (λ m. m + 1) (is ∙ ap (λ m. made_by m J) (sym same))
          ∙ ap (λ b. made_by k J + cond b 1 0) (sym (eq-eqb entry.session k (sym same)))
          ∙ sym more
      | inr other ↦
          get_or-set_other made entry.session k (n + 1) 0 other
          ∙ are k (omega arith)
          ∙ none_more (made_by k J)
          ∙ ap (λ b. made_by k J + cond b 1 0) (sym (ne_eqb entry.session k (λ same. other (sym same))))
          ∙ sym more
    ]
  where
    none_more : (m : ℕ) → m ≡ m + cond false 1 0
    none_more m = omega arith
