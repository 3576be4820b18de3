-- What is kept under the turn's lock, before a call and after it.
use Rattle.std.proofs.Common.{◌≡◌, ◌⊎◌, ℕ, ◌+◌, ◌<◌, ◌≤◌, Bool, true, false, not, cond, eqb, List, [], ◌∷◌, ◌++◌, length, map, Option, Some, None, take, inl, inr, refl, sym, ap, subst, ◌∙◌, append_assoc, arith}
use Rattle.std.specs.Prelude.{slice_get, is_none, nat_lt, Result, Ok, Err, IfOk, IfErr, IfSome}
use Rattle.std.specs.List.{All, range_with_len}
use Rattle.std.proofs.lemmas.Bool.{and_from, false≢true}
use Rattle.std.proofs.lemmas.Bool.Decides.{eqb_tells}
use Rattle.std.proofs.lemmas.List.{append-nil, get_or-map, length-append, length-map}
use Rattle.std.proofs.lemmas.List.Elements.{All-nil, All-cons, All-append, All-head, All-tail, filter-append}
use Rattle.std.proofs.lemmas.List.FromFn.{length-map-range_with_len}
use Rattle.std.proofs.lemmas.List.Sums.{sum_by-append, sum_by-cons}
use Rattle.std.proofs.lemmas.Option.{none-some, same_Some, slice_get_within, get_or_from_slice_get}
use Rattle.dcr_base.specs.Disk.{DiskView}
use Rattle.dcr_base.specs.Link.{Links}
use Rattle.dcr_set.proofs.ListLemmas.{push_cases}
use Rattle.dcr_set.proofs.SetLemmas.{length-those}
use Rattle.dcr_graph.specs.Projection.{in_alphabet}
use Rattle.dcr_graph.specs.Rows.{row}
use Rattle.dcr_proj.specs.CoverValue.{atoms_of}
use Rattle.dcr_journal.specs.Run.{HasNoFault, IsInRange, made_by}
use Rattle.dcr_journal.specs.declared.call.Call.{Call}
use Rattle.dcr_journal.specs.declared.call.Call.TheVariants.{Exec, Look, Enabled, Accepting}
use Rattle.dcr_journal.specs.declared.call.Entry.{Entry}
use Rattle.dcr_journal.specs.declared.call.Outcome.{Outcome}
use Rattle.dcr_journal.specs.declared.call.Outcome.TheVariants.{Done, NotHere, Excluded, Condition, Milestone, Faulted, Marks, Can, AllDone, Waits}
use Rattle.dcr_line.specs.Fits.{FitsEntry, FitsOutcome, is_of_kind}
use Rattle.dcr_tape.specs.declared.entry.TapeEntry.{TapeEntry}
use Rattle.dcr_tape.specs.declared.tape.Store.{Store}
use Rattle.dcr_tape.specs.declared.tape.Store.TheVariants.{Off, On}
use Rattle.dcr_turn.specs.Pushing.{is_fault}
use Rattle.dcr_turn.specs.TurnId.{TurnId}
use Rattle.dcr_cell.specs.ClusterId.{ClusterId, IsCall, alphabet_of}
use Rattle.dcr_cell.specs.Stored.{CanKeep, GoesOn, StoreStands, execution_of, executions, kept_for}
use Rattle.dcr_cell.proofs.StoreLemmas.{store_spared}
use Rattle.dcr_node.specs.Gathering.{nothing_gathered}
use Rattle.dcr_node.specs.JournalState.{JournalState, IsProposal, entry_of, execution, is_free, proposed, with_out}
use Rattle.dcr_node.specs.Right.{IsOutAt}
use Rattle.dcr_node.specs.declared.journal_node.Proposal.{Proposal}
use Rattle.dcr_order.specs.Acts.{proposes}
use Rattle.dcr_order.specs.Calling.{Rests, Enters, CallEnds, FitsCall, IsStoredWith, told_by}
use Rattle.dcr_order.specs.Linked.{HasVoted, IsLedFrom}
use Rattle.dcr_order.specs.Orders.{HasFailed, IsOrdering, begun_journal, old_entry, old_entries, unfaulted}
use Rattle.dcr_order.specs.declared.place.Place.{Place}
use Rattle.dcr_order.proofs.FitLemmas.{fault_is_execution}
use Rattle.dcr_order.proofs.LedLemmas.{led_proposing}
use Rattle.dcr_order.proofs.VotedLemmas.{voted_rests}

-- ---- entries

-- what is no fault stays
pub all_unfaulted : (J : List Entry) → HasNoFault J → unfaulted J ≡ J
all_unfaulted [] none = refl
all_unfaulted (entry ∷ J) none =
    let first = All-head (λ (e : Entry). e.outcome ≡ Faulted → ⊥) entry J none in
    ap (λ (b : Bool). cond (not b) (entry ∷ unfaulted J) (unfaulted J)) (no_fault_is entry.outcome first)
    ∙ ap (λ (K : List Entry). entry ∷ K) (all_unfaulted J (All-tail (λ (e : Entry). e.outcome ≡ Faulted → ⊥) entry J none))
  where
    no_fault_is : (o : Outcome) → (o ≡ Faulted → ⊥) → is_fault o ≡ false
    no_fault_is Done none = refl
    no_fault_is NotHere none = refl
    no_fault_is Excluded none = refl
    no_fault_is (Condition c) none = refl
    no_fault_is (Milestone m) none = refl
    no_fault_is Faulted none = absurd (none refl)
    no_fault_is (Marks mark) none = refl
    no_fault_is (Can events) none = refl
    no_fault_is AllDone none = refl
    no_fault_is (Waits e) none = refl

-- another session has made none of the entries from before
pub none_made : (session other : ℕ) (old : List TapeEntry) (xs : List ℕ) → eqb other session ≡ false → made_by session (map (old_entry other old) xs) ≡ 0
none_made session other old [] apart = refl
none_made session other old (k ∷ xs) apart =
    let f = λ (e : Entry). cond {A = ℕ} (eqb e.session session) 1 0 in
    let rest = none_made session other old xs apart in
    let all : made_by session (old_entry other old k ∷ map (old_entry other old) xs) ≡ f (old_entry other old k) + made_by session (map (old_entry other old) xs) =
    sum_by-cons f (old_entry other old k) (map (old_entry other old) xs) in
    let one : f (old_entry other old k) ≡ 0 = ap (λ (b : Bool). cond {A = ℕ} b 1 0) apart in
    omega arith

pub not_equal : (other session : ℕ) → session < other → eqb other session ≡ false
not_equal other session below = elim (eqb_tells other session) [
  | inl same ↦ absurd (let is = same.1 in omega arith)
  | inr apart ↦ apart.0
]

pub made_behind : (session other : ℕ) (old : List TapeEntry) (J : List Entry) → session < other → made_by session (old_entries other old ++ J) ≡ made_by session J
made_behind session other old J below =
    let both : made_by session (old_entries other old ++ J) ≡ made_by session (old_entries other old) + made_by session J =
    sum_by-append (λ (e : Entry). cond {A = ℕ} (eqb e.session session) 1 0) (old_entries other old) J in
    let none : made_by session (old_entries other old) ≡ 0 = none_made session other old (range_with_len 0 (length old)) (not_equal other session below) in
    omega arith

-- ---- the call is out

-- of a call that is out, what it ends in is seen from before
pub ends_before : (j after : JournalState) (p : Proposal) (o : Option Outcome) → CallEnds (with_out j p) after p o → CallEnds j after p o
ends_before j after p None ends = rests ends
  where
    rests : Rests (with_out j p) after → Rests j after
    rests r = record { alphabets = r.alphabets; history = r.history; sessions = r.sessions; out = r.out }
ends_before j after p (Some outcome) ends = by_outcome outcome ends
  where
    rests : Rests (with_out j p) after → Rests j after
    rests r = record { alphabets = r.alphabets; history = r.history; sessions = r.sessions; out = r.out }

    enters : (o : Outcome) → Enters (with_out j p) after p o → Enters j after p o
    enters o e = record { alphabets = e.alphabets; entries = e.entries; capacity = e.capacity; sessions = e.sessions; out = e.out }

    by_outcome : (o : Outcome) → CallEnds (with_out j p) after p (Some o) → CallEnds j after p (Some o)
    by_outcome Done e = enters Done e
    by_outcome NotHere e = enters NotHere e
    by_outcome Excluded e = enters Excluded e
    by_outcome (Condition c) e = enters (Condition c) e
    by_outcome (Milestone m) e = enters (Milestone m) e
    by_outcome Faulted e = rests e
    by_outcome (Marks mark) e = enters (Marks mark) e
    by_outcome (Can events) e = enters (Can events) e
    by_outcome AllDone e = enters AllDone e
    by_outcome (Waits event) e = enters (Waits event) e

-- a call failed, or has its entry
abbrev FailsOrEnters : JournalState → JournalState → Proposal → Outcome → Type 0
FailsOrEnters j after p o = ((o ≡ Faulted) × Rests j after) ⊎ ((is_fault o ≡ false) × Enters j after p o)

fails_or_enters : (j after : JournalState) (p : Proposal) (o : Outcome) → CallEnds j after p (Some o) → FailsOrEnters j after p o
fails_or_enters j after p Done e = inr (refl, e)
fails_or_enters j after p NotHere e = inr (refl, e)
fails_or_enters j after p Excluded e = inr (refl, e)
fails_or_enters j after p (Condition c) e = inr (refl, e)
fails_or_enters j after p (Milestone m) e = inr (refl, e)
fails_or_enters j after p Faulted e = inl (refl, e)
fails_or_enters j after p (Marks mark) e = inr (refl, e)
fails_or_enters j after p (Can events) e = inr (refl, e)
fails_or_enters j after p AllDone e = inr (refl, e)
fails_or_enters j after p (Waits event) e = inr (refl, e)

-- ---- the store

one_at_most : (call : Call) (outcome : Outcome) → length (execution_of call outcome) ≤ 1
one_at_most (Exec i e) Done = omega arith
one_at_most call outcome = omega arith

executions_few : (J : List Entry) → length (executions J) ≤ length J
executions_few [] = omega arith
executions_few (entry ∷ J) =
    let both = length-append (execution_of entry.call entry.outcome) (executions J) in
    let one = one_at_most entry.call entry.outcome in
    let rest = executions_few J in omega arith

module _ {D : Type 0} (view : D → DiskView) (faults : D → ℕ) where
  pub may_keep : (first : Option (Store D)) (old : List TapeEntry) (J : List Entry) (store : Store D) → StoreStands view faults first old J store → HasNoFault J
      → length J < 200000 → length old ≤ 1000000 → CanKeep store
  may_keep None old J store stands none few few_old = absurd stands
  may_keep (Some (Off disk)) old J (Off now) stands none few few_old = tt
  may_keep (Some (Off disk)) old J (On tape) stands none few few_old = absurd stands
  may_keep (Some (On tape)) old J (Off now) stands none few few_old = absurd stands
  may_keep (Some (On first)) old J (On tape) stands none few few_old =
      let going : GoesOn view faults first (kept_for old J) tape = stands.goes_on none in
      let count = going.keeps.count in
      let both = length-append old (executions J) in
      let some = executions_few J in
      (going.running, going.renewed, omega arith)

  -- a call that is no execution leaves the store
  pub stored_as_was : (first : Option (Store D)) (old : List TapeEntry) (store : Store D) (call : Call) (outcome : Outcome) → ((i e : ℕ) → call ≡ Exec i e → ⊥)
      → (outcome ≡ Faulted → ⊥) → IsStoredWith view faults first old store store call (Some outcome)
  stored_as_was first old store call outcome other unfaulted = λ J stands none. (
    λ fault. absurd (unfaulted fault),
    λ entry asked tells.
        store_spared view faults old J entry none first store (λ fault. unfaulted (sym tells ∙ fault)) (ap (λ (c : Call). execution_of c entry.outcome) asked ∙ no_execution call entry.outcome other) stands,
  )
    where
      no_execution : (c : Call) (o : Outcome) → ((i e : ℕ) → c ≡ Exec i e → ⊥) → execution_of c o ≡ []
      no_execution (Exec i e) o other = absurd (other i e refl)
      no_execution (Look i) o other = refl
      no_execution (Enabled i) o other = refl
      no_execution Accepting o other = refl

-- ---- an entry more

-- the entries before it
take_whole : (J more : List Entry) → take (length J) (J ++ more) ≡ J
take_whole [] more = refl
take_whole (entry ∷ J) more = ap (λ (K : List Entry). entry ∷ K) (take_whole J more)

-- a fault is none of those in which nothing failed
no_such_fault : (J : List Entry) → HasNoFault J → (k : ℕ) (entry : Entry) → slice_get J k ≡ Some entry → entry.outcome ≡ Faulted → ⊥
no_such_fault J none k entry is fault =
    subst (λ (x : Entry). x.outcome ≡ Faulted → ⊥) (get_or_from_slice_get J k entry entry is) (none k entry (slice_get_within J k entry is)) fault

-- ---- what is kept

module _ {D L R : Type 0} (view : D → DiskView) (faults : D → ℕ) (each : Links L R) (links : Option (List L)) (before : Option (List (ℕ × R))) (greets : ℕ → List ℕ → List ℕ → Type 0) (c : ClusterId)
    (turn : TurnId) (first : Option (Store D)) (J : List Entry) (node : JournalState) (places : List (Place L)) (back : Option (List (ℕ × R))) (store : Store D)
    (stands : IsOrdering view faults each links before greets c turn first J node places back store) where
  pub many_sites : length node.alphabets ≡ length c.owned
  many_sites = ap (λ (A : List _). length A) stands.alphabets ∙ length-map c.owned (alphabet_of c)

  -- a call may be proposed
  pub ordering_is_free : (capacity : ℕ) → HasNoFault J → length J < capacity → capacity + length c.old ≤ 200000 → is_free node ≡ true
  ordering_is_free capacity none room most =
      let entries = stands.entries ∙ ap (λ (K : List Entry). old_entries turn.sessions c.old ++ K) (all_unfaulted J none) in
      let long = ap (λ (K : List Entry). length K) entries ∙ length-append (old_entries turn.sessions c.old) J in
      let old : length (old_entries turn.sessions c.old) ≡ length c.old = length-map-range_with_len (old_entry turn.sessions c.old) 0 (length c.old) in
      let cap = stands.capacity in
      and_from (is_none node.out) (nat_lt (length node.history.entries) node.history.capacity) (ap is_none stands.out) (lt_is (length node.history.entries) node.history.capacity (omega arith))
    where
      lt_is : (a b : ℕ) → a < b → nat_lt a b ≡ true
      lt_is a b below = grind arith

  -- where the site is away it is kept as it was
  pub ordering_rests : (after : JournalState) (places_then : List (Place L)) (back_then : Option (List (ℕ × R))) (store_then : Store D) → Rests node after → store_then ≡ store → HasNoFault J
      → (IsLedFrom each links before greets c (begun_journal c turn.sessions) node places back → IsLedFrom each links before greets c (begun_journal c turn.sessions) after places_then back_then)
      → IsOrdering view faults each links before greets c turn first J after places_then back_then store_then
  ordering_rests after places_then back_then store_then rests same none led = record {
    alphabets = rests.alphabets ∙ stands.alphabets;
    entries = ap (λ h. h.entries) rests.history ∙ stands.entries;
    capacity = ap (λ h. h.capacity) rests.history ∙ stands.capacity;
    sessions = rests.sessions ∙ stands.sessions;
    out = rests.out;
    fits = stands.fits;
    failed = λ k entry is fault. absurd (no_such_fault J none k entry is fault);
    stored = subst (λ (s : Store D). StoreStands view faults first c.old J s) (sym same) stands.stored;
    led = led stands.led;
  }

  -- with one entry more
  pub ordering_more : (after : JournalState) (places_then : List (Place L)) (back_then : Option (List (ℕ × R))) (store_then : Store D) (p : Proposal) (outcome : Outcome) (entry : Entry) → HasNoFault J
      → p.session < turn.sessions → CallEnds node after p (Some outcome) → IsStoredWith view faults first c.old store store_then p.call (Some outcome)
      → (IsLedFrom each links before greets c (begun_journal c turn.sessions) node places back → IsLedFrom each links before greets c (begun_journal c turn.sessions) after places_then back_then)
      → entry.session ≡ p.session → entry.seq ≡ made_by p.session J → entry.call ≡ p.call → entry.outcome ≡ outcome → FitsEntry (length c.owned) c.rules.atoms entry
      → (outcome ≡ Faulted → (i e : ℕ) × (p.call ≡ Exec i e) × HasVoted each links before greets c after places_then back_then p.session i e)
      → IsOrdering view faults each links before greets c turn first (J ++ entry ∷ []) after places_then back_then store_then
  ordering_more after places_then back_then store_then p outcome entry none below ends stored led session seq call tells fits_one voted =
      let behind : unfaulted (J ++ entry ∷ []) ≡ J ++ unfaulted (entry ∷ []) =
      filter-append (λ (e : Entry). not (is_fault e.outcome)) J (entry ∷ []) ∙ ap (λ (K : List Entry). K ++ unfaulted (entry ∷ [])) (all_unfaulted J none) in
      let was : node.history.entries ≡ old_entries turn.sessions c.old ++ J = stands.entries ∙ ap (λ (K : List Entry). old_entries turn.sessions c.old ++ K) (all_unfaulted J none) in
      let fits : All (FitsEntry (length c.owned) c.rules.atoms) (J ++ entry ∷ []) =
      All-append (FitsEntry (length c.owned) c.rules.atoms) J (entry ∷ []) stands.fits
      (All-cons (FitsEntry (length c.owned) c.rules.atoms) entry [] fits_one (All-nil (FitsEntry (length c.owned) c.rules.atoms))) in
      let failed : (k : ℕ) (e : Entry) → slice_get (J ++ entry ∷ []) k ≡ Some e → e.outcome ≡ Faulted
      → HasFailed each links before greets c (J ++ entry ∷ []) after places_then back_then k e =
      λ k e is fault. elim (push_cases J entry k e is) [
        | inl at ↦
            let here = at.0 in let long = length-append J (entry ∷ []) in
            let had = voted (sym tells ∙ ap (λ (x : Entry). x.outcome) (sym at.1) ∙ fault) in
            subst (HasFailed each links before greets c (J ++ entry ∷ []) after places_then back_then k) (sym at.1) (record {
              last = omega arith;
              seq = seq
                  ∙ ap (λ (n : ℕ). made_by n J) (sym session)
                  ∙ ap (made_by entry.session) (sym (take_whole J (entry ∷ [])))
                  ∙ ap (λ (n : ℕ). made_by entry.session (take n (J ++ entry ∷ []))) (sym here);
              site = had.0;
              event = had.1;
              call = call ∙ had.2;
              voted = subst (λ (n : ℕ). HasVoted each links before greets c after places_then back_then n had.0 had.1) (sym session) had.3;
            })
        | inr old ↦ absurd (no_such_fault J none k e old fault)
      ] in
      let kept = (stored J stands.stored none).1 entry call tells in
      elim (fails_or_enters node after p outcome ends) [
        | inl fails ↦ record {
          alphabets = fails.1.alphabets ∙ stands.alphabets;
          entries =
              let alone : unfaulted (entry ∷ []) ≡ [] = ap (λ (o : Outcome). cond (not (is_fault o)) (entry ∷ []) []) (tells ∙ fails.0) in
              ap (λ h. h.entries) fails.1.history ∙ was ∙ ap (λ (K : List Entry). old_entries turn.sessions c.old ++ K) (sym (behind ∙ ap (λ (K : List Entry). J ++ K) alone ∙ append-nil J));
          capacity = ap (λ h. h.capacity) fails.1.history ∙ stands.capacity;
          sessions = fails.1.sessions ∙ stands.sessions;
          out = fails.1.out;
          fits = fits;
          failed = failed;
          stored = kept;
          led = led stands.led;
        }
        | inr enters ↦ record {
          alphabets = enters.1.alphabets ∙ stands.alphabets;
          entries =
              let alone : unfaulted (entry ∷ []) ≡ entry ∷ [] = ap (λ (o : Outcome). cond (not (is_fault o)) (entry ∷ []) []) tells ∙ ap (λ (b : Bool). cond (not b) (entry ∷ []) []) enters.0 in
              let made : made_by p.session node.history.entries ≡ made_by p.session J = ap (made_by p.session) was ∙ made_behind p.session turn.sessions c.old J below in
              let same : entry_of node p outcome ≡ entry =
              ap (λ (n : ℕ). let x : Entry = record { session = p.session; seq = n; call = p.call; outcome = outcome } in x) (made ∙ sym seq)
              ∙ ap (λ (n : ℕ). let x : Entry = record { session = n; seq = entry.seq; call = p.call; outcome = outcome } in x) (sym session)
              ∙ ap (λ (a : Call). let x : Entry = record { session = entry.session; seq = entry.seq; call = a; outcome = outcome } in x) (sym call)
              ∙ ap (λ (o : Outcome). let x : Entry = record { session = entry.session; seq = entry.seq; call = entry.call; outcome = o } in x) (sym tells) in
              enters.1.entries
              ∙ ap (λ (K : List Entry). K ++ entry_of node p outcome ∷ []) was
              ∙ append_assoc (old_entries turn.sessions c.old) J (entry_of node p outcome ∷ [])
              ∙ ap (λ (e : Entry). old_entries turn.sessions c.old ++ (J ++ e ∷ [])) same
              ∙ ap (λ (K : List Entry). old_entries turn.sessions c.old ++ K) (sym (behind ∙ ap (λ (K : List Entry). J ++ K) alone));
          capacity = enters.1.capacity ∙ stands.capacity;
          sessions = enters.1.sessions ∙ stands.sessions;
          out = enters.1.out;
          fits = fits;
          failed = failed;
          stored = kept;
          led = led stands.led;
        }
      ]

-- a call is put out
pub proposing_from : {L R : Type 0} (each : Links L R) (links : Option (List L)) (before : Option (List (ℕ × R))) (greets : ℕ → List ℕ → List ℕ → Type 0) (c : ClusterId) (first j after_j : JournalState)
    (places : List (Place L)) (back : Option (List (ℕ × R))) (p : Proposal) → IsOutAt c.rules c.owned p → after_j ≡ proposed j p
    → IsLedFrom each links before greets c first j places back → IsLedFrom each links before greets c first after_j places back
proposing_from each links before greets c first j after_j places back p is same led =
    subst (λ (k : JournalState). IsLedFrom each links before greets c first k places back) (sym same)
    (led.0 ++ proposes p ∷ [], led_proposing each links before greets c first j places back led.0 led.1 p is)

pub is_with_out : (j after : JournalState) (p : Proposal) → after ≡ proposed j p → is_free j ≡ true → after ≡ with_out j p
is_with_out j after p is free = is ∙ ap (λ (b : Bool). cond b (with_out j p) j) free

-- ---- what a call was answered

-- a call that is no execution leaves the store, whatever it was told
pub stored_quiet : {D : Type 0} (view : D → DiskView) (faults : D → ℕ) (first : Option (Store D)) (old : List TapeEntry) (store after : Store D) (call : Call) (o told : Option Outcome) → told ≡ o
    → ((i e : ℕ) → call ≡ Exec i e → ⊥) → IfSome o (λ outcome. is_fault outcome ≡ false) → after ≡ store → IsStoredWith view faults first old store after call told
stored_quiet view faults first old store after call o told same other quiet as_was =
    subst (λ (t : Option Outcome). IsStoredWith view faults first old store after call t) (sym same)
    (subst (λ (s : Store _). IsStoredWith view faults first old store s call o) (sym as_was) (by_outcome o quiet))
  where
    by_outcome : (o : Option Outcome) → IfSome o (λ outcome. is_fault outcome ≡ false) → IsStoredWith view faults first old store store call o
    by_outcome None quiet = refl
    by_outcome (Some outcome) quiet = stored_as_was view faults first old store call outcome other (λ fault. false≢true (sym quiet ∙ ap is_fault fault))

pub ok_as_some : (r : Result Outcome ℕ) → IfOk r (λ outcome. is_fault outcome ≡ false) → IfSome (told_by r) (λ outcome. is_fault outcome ≡ false)
ok_as_some (Ok outcome) is = is
ok_as_some (Err site) is = tt

-- what holds of what was answered
ok_is : (r : Result Outcome ℕ) (P : Outcome → Type 0) (outcome : Outcome) → told_by r ≡ Some outcome → IfOk r P → P outcome
ok_is (Ok o) P outcome told is = subst P (same_Some o outcome told) is
ok_is (Err site) P outcome told is = absurd (none-some outcome told)

pub if_ok_is : (r : Result Outcome ℕ) (P : Outcome → Type 0) → ((outcome : Outcome) → told_by r ≡ Some outcome → P outcome) → IfOk r P
if_ok_is (Ok outcome) P all = all outcome refl
if_ok_is (Err site) P all = tt

pub if_err_is : (r : Result Outcome ℕ) (P : Type 0) → (told_by r ≡ None → P) → IfErr r (λ _. P)
if_err_is (Ok outcome) P all = tt
if_err_is (Err site) P all = all refl

look_apart : (k i e : ℕ) → Look k ≡ Exec i e → ⊥
look_apart k i e is = cc

enabled_apart : (k i e : ℕ) → Enabled k ≡ Exec i e → ⊥
enabled_apart k i e is = cc

accepting_apart : (i e : ℕ) → Accepting ≡ Exec i e → ⊥
accepting_apart i e is = cc

pub look_is_quiet : (call : Call) (k : ℕ) → call ≡ Look k → (i e : ℕ) → call ≡ Exec i e → ⊥
look_is_quiet call k is i e other = look_apart k i e (sym is ∙ other)

pub enabled_is_quiet : (call : Call) (k : ℕ) → call ≡ Enabled k → (i e : ℕ) → call ≡ Exec i e → ⊥
enabled_is_quiet call k is i e other = enabled_apart k i e (sym is ∙ other)

pub accepting_is_quiet : (call : Call) → call ≡ Accepting → (i e : ℕ) → call ≡ Exec i e → ⊥
accepting_is_quiet call is i e other = accepting_apart i e (sym is ∙ other)

-- ---- a call of a session

-- how many atoms the alphabets are about
pub atoms_are : (c : ClusterId) → 1 ≤ length c.owned → atoms_of (map (alphabet_of c) c.owned) ≡ c.rules.atoms
atoms_are c some = ap (λ (A : List Bool). length A) (get_or-map (alphabet_of c) c.owned 0 [] [] (omega arith)) ∙ length-those c.rules.atoms (in_alphabet c.rules (row c.owned 0))

pub proposal_is : (c : ClusterId) (node : JournalState) (sessions session : ℕ) (call : Call) → node.alphabets ≡ map (alphabet_of c) c.owned → node.sessions ≡ sessions + 1 → session < sessions
    → 1 ≤ length c.owned → IsCall c call → IsProposal node (record { session = session; call = call })
proposal_is c node sessions session call alphabets many below some is = record {
  session = (omega arith);
  call =
      let sites : length node.alphabets ≡ length c.owned = ap (λ (A : List _). length A) alphabets ∙ length-map c.owned (alphabet_of c) in
      let atoms : atoms_of node.alphabets ≡ c.rules.atoms = ap atoms_of alphabets ∙ atoms_are c some in
      subst (λ (n : ℕ). IsInRange n (atoms_of node.alphabets) call) (sym sites) (subst (λ (n : ℕ). IsInRange (length c.owned) n call) (sym atoms) is);
}

pub nothing_told_yet : (j after : JournalState) (p : Proposal) → after ≡ with_out j p → after.gathered ≡ nothing_gathered (length after.alphabets)
nothing_told_yet j after p is = ap (λ (n : JournalState). n.gathered) is ∙ ap (λ (n : JournalState). nothing_gathered (length n.alphabets)) (sym is)

-- what a call that was put out ends in
pub ends_from : (j mid after : JournalState) (p : Proposal) (o told : Option Outcome) → mid ≡ with_out j p → told ≡ o → CallEnds mid after p told → CallEnds j after p o
ends_from j mid after p o told out same ends =
    ends_before j after p o (subst (λ (n : JournalState). CallEnds n after p o) out (subst (λ (t : Option Outcome). CallEnds mid after p t) same ends))

-- what was answered has a text
pub entry_fits : (c : ClusterId) (node mid : JournalState) (p : Proposal) (entry : Entry) (r : Result Outcome ℕ) (outcome : Outcome) → node.alphabets ≡ map (alphabet_of c) c.owned
    → 1 ≤ length c.owned → mid ≡ with_out node p → IsCall c p.call → told_by r ≡ Some outcome → IfOk r (FitsCall (atoms_of mid.alphabets) p.call) → entry.call ≡ p.call → entry.outcome ≡ outcome
    → FitsEntry (length c.owned) c.rules.atoms entry
entry_fits c node mid p entry r outcome alphabets some out is told fits call tells =
    let atoms : atoms_of mid.alphabets ≡ c.rules.atoms = ap (λ (n : JournalState). atoms_of n.alphabets) out ∙ ap atoms_of alphabets ∙ atoms_are c some in
    let of : FitsCall c.rules.atoms p.call outcome =
    subst (λ (n : ℕ). FitsCall n p.call outcome) atoms (ok_is r (FitsCall (atoms_of mid.alphabets) p.call) outcome told fits) in
    record {
      call = subst (IsInRange (length c.owned) c.rules.atoms) (sym call) is;
      kind = ap (λ (a : Call). is_of_kind a entry.outcome) call ∙ ap (is_of_kind p.call) tells ∙ of.kind;
      outcome = subst (FitsOutcome c.rules.atoms) (sym tells) of.within;
    }

-- of an execution that failed the vote was had
pub fault_was_voted : {L R : Type 0} (each : Links L R) (links : Option (List L)) (before : Option (List (ℕ × R))) (greets : ℕ → List ℕ → List ℕ → Type 0) (c : ClusterId) (node mid after : JournalState)
    (p : Proposal) (r : Result Outcome ℕ) (outcome : Outcome) (places : List (Place L)) (back : Option (List (ℕ × R))) (atoms : ℕ) → mid ≡ with_out node p → told_by r ≡ Some outcome
    → CallEnds node after p (Some outcome) → IfOk r (FitsCall atoms p.call)
    → IfOk r (λ (o : Outcome). o ≡ Faulted → (session i e : ℕ) → p.call ≡ Exec i e → mid.out ≡ Some (execution session i e) → HasVoted each links before greets c mid places back session i e)
    → outcome ≡ Faulted → (i e : ℕ) × (p.call ≡ Exec i e) × HasVoted each links before greets c after places back p.session i e
fault_was_voted each links before greets c node mid after p r outcome places back atoms out told ends fits voted fault =
    let of = ok_is r (FitsCall atoms p.call) outcome told fits in
    let is = fault_is_execution p.call (ap (is_of_kind p.call) (sym fault) ∙ of.kind) in
    let i = is.0 in let e = is.1 in
    let own : mid.out ≡ Some (execution p.session i e) =
    ap (λ (n : JournalState). n.out) out ∙ ap (λ (a : Call). Some (proposal_of p.session a)) is.2 in
    let rests : Rests node after = subst (λ (o : Outcome). CallEnds node after p (Some o)) fault ends in
    let had = ok_is r (λ (o : Outcome). o ≡ Faulted → (session i e : ℕ) → p.call ≡ Exec i e → mid.out ≡ Some (execution session i e) → HasVoted each links before greets c mid places back session i e)
    outcome told voted fault p.session i e is.2 own in
    let then : HasVoted each links before greets c (with_out node p) places back p.session i e =
    subst (λ (n : JournalState). HasVoted each links before greets c n places back p.session i e) out had in
    (i, e, is.2, voted_rests each links before greets c (with_out node p) after places back p.session i e rests.alphabets rests.history rests.sessions then)
  where
    proposal_of : ℕ → Call → Proposal
    proposal_of session call = record { session = session; call = call }
