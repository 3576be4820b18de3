-- What a store keeps, as the journal's list grows.
use Rattle.std.proofs.Common.{◌≡◌, ◌⊎◌, inl, inr, ⊎_elim, IsTrue, Bool, ℕ, ◌<◌, ◌≤◌, false, true, List, [], ◌∷◌, ◌++◌, length, Option, Some, None, refl, sym, ap, ◌∙◌, subst, arith}
use Rattle.std.specs.Prelude.{slice_get}
use Rattle.std.proofs.lemmas.Bool.{cases_lt}
use Rattle.std.proofs.lemmas.Grind.{flat_map-append}
use Rattle.std.proofs.lemmas.List.{append-nil, append_assoc, length-append, take_all, take_at, take-append-le}
use Rattle.std.proofs.lemmas.List.Elements.{All-nil, All-contains, All-head, All-tail, All-push, Contains-push}
use Rattle.std.proofs.lemmas.Option.{slice_get_within, get_or_from_slice_get}
use Rattle.dcr_base.specs.Count.{Rose}
use Rattle.dcr_base.specs.Disk.{DiskView, IsSteady, LeavesOnly}
use Rattle.dcr_base.proofs.DiskLemmas.{joined, weaker}
use Rattle.dcr_journal.specs.Run.{HasNoFault, made_by}
use Rattle.dcr_journal.proofs.SoundLemmas.{answer_no_fault, sound_more, legal_fault}
use Rattle.dcr_journal.specs.declared.call.Call.{Call}
use Rattle.dcr_journal.specs.declared.call.Call.TheVariants.{Exec, Look, Enabled, Accepting}
use Rattle.dcr_journal.specs.declared.call.Entry.{Entry}
use Rattle.dcr_journal.specs.declared.call.Outcome.{Outcome}
use Rattle.dcr_journal.specs.declared.call.Outcome.TheVariants.{Done, Faulted}
use Rattle.dcr_tape.specs.Kept.{TapeHolds}
use Rattle.dcr_tape.specs.Tape.{StandsFor}
use Rattle.dcr_tape.specs.declared.entry.TapeEntry.{TapeEntry}
use Rattle.dcr_tape.specs.declared.tape.Store.{Store}
use Rattle.dcr_tape.specs.declared.tape.Store.TheVariants.{Off, On}
use Rattle.dcr_tape.specs.declared.tape.Tape.{Tape}
use Rattle.dcr_cell.specs.ClusterId.{ClusterId, IsCall, IsRunOf, IsSoundRunOf, answer_after, begun, marking_after}
use Rattle.dcr_cell.specs.Keeping.{IsToldAs, StandsBy, as_found, as_fault, kept_as}
use Rattle.dcr_cell.specs.Stored.{CanKeep, MayBegin, IsTaped, GoesOn, StandsForSome, StoreStands, TapeStands, execution_of, failed_execution_of, executions, failed_executions, kept_for, tried_for}

-- ---- the executions of a run

executions_more : (J : List Entry) (entry : Entry) → executions (J ++ entry ∷ []) ≡ executions J ++ execution_of entry.call entry.outcome
executions_more J entry =
    flat_map-append (λ (e : Entry). execution_of e.call e.outcome) J (entry ∷ []) ∙ ap (λ (l : List TapeEntry). executions J ++ l) (append-nil (execution_of entry.call entry.outcome))

failed_more : (J : List Entry) (entry : Entry) → failed_executions (J ++ entry ∷ []) ≡ failed_executions J ++ failed_execution_of entry.call entry.outcome
failed_more J entry =
    flat_map-append (λ (e : Entry). failed_execution_of e.call e.outcome) J (entry ∷ []) ∙ ap (λ (l : List TapeEntry). failed_executions J ++ l) (append-nil (failed_execution_of entry.call entry.outcome))

none_failed_of : (call : Call) (outcome : Outcome) → (outcome ≡ Faulted → ⊥) → failed_execution_of call outcome ≡ []
none_failed_of (Exec i e) Faulted none = absurd (none refl)
none_failed_of call outcome none = refl

none_done : (call : Call) → execution_of call Faulted ≡ []
none_done (Exec i e) = refl
none_done (Look i) = refl
none_done (Enabled i) = refl
none_done Accepting = refl

no_execution : (call : Call) (outcome : Outcome) → ((i e : ℕ) → call ≡ Exec i e → outcome ≡ Done → ⊥) → execution_of call outcome ≡ []
no_execution (Exec i e) Done other = absurd (other i e refl refl)
no_execution call outcome other = refl

none_failed : (J : List Entry) → HasNoFault J → failed_executions J ≡ []
none_failed [] none = refl
none_failed (entry ∷ J) none =
    ap (λ (l : List TapeEntry). l ++ failed_executions J) (none_failed_of entry.call entry.outcome (All-head (λ (e : Entry). e.outcome ≡ Faulted → ⊥) entry J none))
    ∙ none_failed J (All-tail (λ (e : Entry). e.outcome ≡ Faulted → ⊥) entry J none)

one_at_most : (call : Call) (outcome : Outcome) → length (execution_of call outcome) ≤ 1
one_at_most (Exec i e) Done = omega arith
one_at_most call outcome = omega arith

-- no more than the run has entries
executions_few : (J : List Entry) → length (executions J) ≤ length J
executions_few [] = omega arith
executions_few (entry ∷ J) =
    let both = length-append (execution_of entry.call entry.outcome) (executions J) in
    let one = one_at_most entry.call entry.outcome in
    let rest = executions_few J in omega arith

module _ (old : List TapeEntry) (J : List Entry) where
  -- of a run without a fault no more was tried than was done
  tried_is : HasNoFault J → tried_for old J ≡ kept_for old J
  tried_is none = ap (λ (l : List TapeEntry). kept_for old J ++ l) (none_failed J none) ∙ append-nil (kept_for old J)

  module _ (entry : Entry) (xs : List TapeEntry) (is : execution_of entry.call entry.outcome ≡ xs) where
    kept_more : kept_for old (J ++ entry ∷ []) ≡ kept_for old J ++ xs
    kept_more = ap (λ (l : List TapeEntry). old ++ l) (executions_more J entry ∙ ap (λ (l : List TapeEntry). executions J ++ l) is) ∙ sym (append_assoc old (executions J) xs)

    tried_more : (ys : List TapeEntry) → failed_execution_of entry.call entry.outcome ≡ ys → HasNoFault J → tried_for old (J ++ entry ∷ []) ≡ (kept_for old J ++ xs) ++ ys
    tried_more ys fails none =
        ap (λ (l : List TapeEntry). l ++ failed_executions (J ++ entry ∷ [])) kept_more
        ∙ ap (λ (l : List TapeEntry). (kept_for old J ++ xs) ++ l)
        (failed_more J entry ∙ ap (λ (l : List TapeEntry). failed_executions J ++ l) fails ∙ ap (λ (l : List TapeEntry). l ++ ys) (none_failed J none))

-- ---- beginnings

has_old : (old : List TapeEntry) (J : List Entry) → length old ≤ length (kept_for old J)
has_old old J = let both = length-append old (executions J) in omega arith

module _ (digest : List ℕ) (old E : List TapeEntry) (enough : length old ≤ length E) (content : List ℕ) where
  -- all of them are a beginning
  some_all : StandsFor digest E content → StandsForSome digest old E content
  some_all stands = record { count = length E; has_old = enough; stands = subst (λ (l : List TapeEntry). StandsFor digest l content) (sym (take_all (length E) E (omega arith))) stands }

  -- a beginning of these is one of more
  some_more : (more : List TapeEntry) → StandsForSome digest old E content → StandsForSome digest old (E ++ more) content
  some_more more some = elim (cases_lt some.count (length E)) [
    | inl within ↦ record {
      count = some.count;
      has_old = some.has_old;
      stands = subst (λ (l : List TapeEntry). StandsFor digest l content) (sym (take-append-le some.count E more (omega arith))) some.stands;
    }
    | inr past ↦ record {
      count = length E;
      has_old = enough;
      stands = subst (λ (l : List TapeEntry). StandsFor digest l content) (take_all some.count E past ∙ sym (take_at E more (length E) refl)) some.stands;
    }
  ]

-- ---- one entry more

-- what an append of an execution to a tape leaves, whether it succeeded or failed
pub record Leaves {D : Type 0} (view : D → DiskView) (tape new : Tape D) (x : TapeEntry) : Type 0 where
  pub images : (E : List TapeEntry) → TapeHolds view tape E → IsSteady (view tape.disk)
      → LeavesOnly (view tape.disk) (view new.disk) (λ c. StandsFor tape.digest E c ⊎ StandsFor tape.digest (E ++ x ∷ []) c)
  pub same : new.digest ≡ tape.digest

-- where it succeeded
pub record Appends {D : Type 0} (view : D → DiskView) (faults : D → ℕ) (tape new : Tape D) (x : TapeEntry) : Type 0 where
  pub running : new.stopped ≡ false
  pub renewed : new.unrenewed ≡ None
  pub keeps : (E : List TapeEntry) → TapeHolds view tape E → TapeHolds view new (E ++ x ∷ [])
  pub steady : (E : List TapeEntry) → TapeHolds view tape E → IsSteady (view tape.disk) → IsSteady (view new.disk)
  pub counts : faults new.disk ≡ faults tape.disk

-- where it failed
pub record Stops {D : Type 0} (faults : D → ℕ) (tape new : Tape D) : Type 0 where
  pub stopped : new.stopped ≡ true
  pub no_fewer : faults tape.disk ≤ faults new.disk
  pub rose : Rose (faults tape.disk) (faults new.disk)

module _ {D : Type 0} (view : D → DiskView) (faults : D → ℕ) (old : List TapeEntry) (J : List Entry) (entry : Entry) (none : HasNoFault J) where
  no_fault_more : (entry.outcome ≡ Faulted → ⊥) → HasNoFault (J ++ entry ∷ [])
  no_fault_more unfaulted = All-push (λ (e : Entry). e.outcome ≡ Faulted → ⊥) J entry none unfaulted

  fault_last : entry.outcome ≡ Faulted → HasNoFault (J ++ entry ∷ []) → ⊥
  fault_last fault all = All-contains (λ (e : Entry). e.outcome ≡ Faulted → ⊥) (J ++ entry ∷ []) entry all (Contains-push J entry) fault

  module _ (first tape : Tape D) (stands : TapeStands view faults first old J tape) where
    going : GoesOn view faults first (kept_for old J) tape
    going = stands.goes_on none

    -- an entry that is no execution that was done, and no fault
    tape_spared : (entry.outcome ≡ Faulted → ⊥) → execution_of entry.call entry.outcome ≡ [] → TapeStands view faults first old (J ++ entry ∷ []) tape
    tape_spared unfaulted no_execution =
        let kept : kept_for old (J ++ entry ∷ []) ≡ kept_for old J = kept_more old J entry [] no_execution ∙ append-nil (kept_for old J) in
        let tried : tried_for old (J ++ entry ∷ []) ≡ tried_for old J =
        tried_more old J entry [] no_execution [] (none_failed_of entry.call entry.outcome unfaulted) none
        ∙ append-nil (kept_for old J ++ []) ∙ append-nil (kept_for old J) ∙ sym (tried_is old J none) in
        record {
          same_case = stands.same_case;
          any_moment = λ honest. subst (λ (l : List TapeEntry). LeavesOnly (view first.disk) (view tape.disk) (StandsForSome first.digest old l)) (sym tried) (stands.any_moment honest);
          goes_on = λ _. subst (λ (l : List TapeEntry). GoesOn view faults first l tape) (sym kept) going;
          has_stopped = λ faulted. absurd (faulted (no_fault_more unfaulted));
        }

    -- an execution was put on the tape, or that failed
    module _ (new : Tape D) (i e : ℕ) (call : entry.call ≡ Exec i e) (append : Leaves view tape new (record { event = e; site = i })) where
      abbrev x : TapeEntry
      x = record { event = e; site = i }

      abbrev E : List TapeEntry
      E = kept_for old J

      of_first : (content : List ℕ) → StandsFor tape.digest E content ⊎ StandsFor tape.digest (E ++ x ∷ []) content
          → StandsFor first.digest E content ⊎ StandsFor first.digest (E ++ x ∷ []) content
      of_first content stands_for = subst (λ (digest : List ℕ). StandsFor digest E content ⊎ StandsFor digest (E ++ x ∷ []) content) stands.same_case stands_for

      left : IsTrue (view first.disk).honest → LeavesOnly (view tape.disk) (view new.disk) (λ c. StandsFor first.digest E c ⊎ StandsFor first.digest (E ++ x ∷ []) c)
      left honest = weaker (view tape.disk) (view new.disk) (λ c. StandsFor tape.digest E c ⊎ StandsFor tape.digest (E ++ x ∷ []) c)
          (λ c. StandsFor first.digest E c ⊎ StandsFor first.digest (E ++ x ∷ []) c) of_first (append.images E going.keeps (going.steady honest))

      longer : length old ≤ length (E ++ x ∷ [])
      longer = let both = length-append E (x ∷ []) in let enough = has_old old J in omega arith

      any_moment : IsTrue (view first.disk).honest → LeavesOnly (view first.disk) (view new.disk) (StandsForSome first.digest old (E ++ x ∷ []))
      any_moment honest = joined (view first.disk) (view tape.disk) (view new.disk) (StandsForSome first.digest old (E ++ x ∷ []))
          (weaker (view first.disk) (view tape.disk) (StandsForSome first.digest old (tried_for old J)) (StandsForSome first.digest old (E ++ x ∷ []))
          (λ c some. some_more first.digest old E (has_old old J) c (x ∷ []) (subst (λ (l : List TapeEntry). StandsForSome first.digest old l c) (tried_is old J none) some))
          (stands.any_moment honest))
          (weaker (view tape.disk) (view new.disk) (λ c. StandsFor first.digest E c ⊎ StandsFor first.digest (E ++ x ∷ []) c) (StandsForSome first.digest old (E ++ x ∷ []))
          (λ c stands_for. ⊎_elim (λ (without : StandsFor first.digest E c). some_more first.digest old E (has_old old J) c (x ∷ []) (some_all first.digest old E (has_old old J) c without))
          (λ (with_it : StandsFor first.digest (E ++ x ∷ []) c). some_all first.digest old (E ++ x ∷ []) longer c with_it) stands_for)
          (left honest))

      tape_done : entry.outcome ≡ Done → Appends view faults tape new x → TapeStands view faults first old (J ++ entry ∷ []) new
      tape_done done ok =
          let done_is : execution_of entry.call entry.outcome ≡ x ∷ [] = ap (execution_of entry.call) done ∙ ap (λ (asked : Call). execution_of asked Done) call in
          let unfaulted : (entry.outcome ≡ Faulted → ⊥) = λ fault. absurd cc in
          let kept = kept_more old J entry (x ∷ []) done_is in
          let tried : tried_for old (J ++ entry ∷ []) ≡ E ++ x ∷ [] =
          tried_more old J entry (x ∷ []) done_is [] (none_failed_of entry.call entry.outcome unfaulted) none ∙ append-nil (E ++ x ∷ []) in
          record {
            same_case = append.same ∙ stands.same_case;
            any_moment = λ honest. subst (λ (l : List TapeEntry). LeavesOnly (view first.disk) (view new.disk) (StandsForSome first.digest old l)) (sym tried) (any_moment honest);
            goes_on = λ _. subst (λ (l : List TapeEntry). GoesOn view faults first l new) (sym kept) (record {
              running = ok.running;
              renewed = ok.renewed;
              keeps = ok.keeps E going.keeps;
              steady = λ honest. ok.steady E going.keeps (going.steady honest);
              no_fault = ok.counts ∙ going.no_fault;
            });
            has_stopped = λ faulted. absurd (faulted (no_fault_more unfaulted));
          }

      tape_fault : entry.outcome ≡ Faulted → Stops faults tape new → TapeStands view faults first old (J ++ entry ∷ []) new
      tape_fault fault stop =
          let not_done : execution_of entry.call entry.outcome ≡ [] = ap (execution_of entry.call) fault ∙ none_done entry.call in
          let kept : kept_for old (J ++ entry ∷ []) ≡ E = kept_more old J entry [] not_done ∙ append-nil E in
          let tried : tried_for old (J ++ entry ∷ []) ≡ E ++ x ∷ [] =
          tried_more old J entry [] not_done (x ∷ []) (ap (failed_execution_of entry.call) fault ∙ ap (λ (asked : Call). failed_execution_of asked Faulted) call) none ∙ ap (λ (l : List TapeEntry). l ++ x ∷ []) (append-nil E) in
          record {
            same_case = append.same ∙ stands.same_case;
            any_moment = λ honest. subst (λ (l : List TapeEntry). LeavesOnly (view first.disk) (view new.disk) (StandsForSome first.digest old l)) (sym tried) (any_moment honest);
            goes_on = λ all. absurd (fault_last fault all);
            has_stopped = λ _. record {
              stopped = stop.stopped;
              leaves = λ honest content may.
                  subst (λ (l : List TapeEntry). StandsFor first.digest l content ⊎ StandsFor first.digest (tried_for old (J ++ entry ∷ [])) content) (sym kept)
                  (subst (λ (l : List TapeEntry). StandsFor first.digest E content ⊎ StandsFor first.digest l content) (sym tried)
                  ((left honest).each content ((view new.disk).counts_now (view tape.disk).moment content (left honest).later may)));
              no_fewer = omega (arith, going.no_fault, stop.no_fewer);
              rose = subst (λ (n : ℕ). Rose n (faults new.disk)) going.no_fault stop.rose;
            };
          }

  -- an entry that is no execution that was done, and no fault, leaves the store
  pub store_spared : (first : Option (Store D)) (store : Store D) → (entry.outcome ≡ Faulted → ⊥) → execution_of entry.call entry.outcome ≡ []
      → StoreStands view faults first old J store → StoreStands view faults first old (J ++ entry ∷ []) store
  store_spared None store unfaulted spared stands = absurd stands
  store_spared (Some (Off disk)) (Off now) unfaulted spared stands = (stands.0, no_fault_more unfaulted)
  store_spared (Some (Off disk)) (On tape) unfaulted spared stands = absurd stands
  store_spared (Some (On tape)) (Off now) unfaulted spared stands = absurd stands
  store_spared (Some (On first)) (On tape) unfaulted spared stands = tape_spared first tape stands unfaulted spared

  -- an execution that was done and put on the tape
  pub store_done : (first : Option (Store D)) (tape new : Tape D) (i e : ℕ) → entry.call ≡ Exec i e → entry.outcome ≡ Done
      → Leaves view tape new (record { event = e; site = i }) → Appends view faults tape new (record { event = e; site = i })
      → StoreStands view faults first old J (On tape) → StoreStands view faults first old (J ++ entry ∷ []) (On new)
  store_done None tape new i e call done append ok stands = absurd stands
  store_done (Some (Off disk)) tape new i e call done append ok stands = absurd stands
  store_done (Some (On first)) tape new i e call done append ok stands = tape_done first tape stands new i e call append done ok

  -- one that the tape failed to keep
  pub store_fault : (first : Option (Store D)) (tape new : Tape D) (i e : ℕ) → entry.call ≡ Exec i e → entry.outcome ≡ Faulted
      → Leaves view tape new (record { event = e; site = i }) → Stops faults tape new
      → StoreStands view faults first old J (On tape) → StoreStands view faults first old (J ++ entry ∷ []) (On new)
  store_fault None tape new i e call fault append stop stands = absurd stands
  store_fault (Some (Off disk)) tape new i e call fault append stop stands = absurd stands
  store_fault (Some (On first)) tape new i e call fault append stop stands = tape_fault first tape stands new i e call append fault stop

-- ---- a run begins

-- what a renewal that succeeded did to a tape, with a tape that was renewed before left as it was
pub record Renews {D : Type 0} (view : D → DiskView) (faults : D → ℕ) (tape new : Tape D) : Type 0 where
  pub running : new.stopped ≡ false
  pub renewed : new.unrenewed ≡ None
  pub keeps : (E : List TapeEntry) → TapeHolds view tape E → TapeHolds view new E
  pub images : (E : List TapeEntry) → TapeHolds view tape E → IsSteady (view tape.disk) → LeavesOnly (view tape.disk) (view new.disk) (StandsFor tape.digest E)
  pub steady : (E : List TapeEntry) → TapeHolds view tape E → IsSteady (view tape.disk) → IsSteady (view new.disk)
  pub same : new.digest ≡ tape.digest
  pub counts : faults new.disk ≡ faults tape.disk

module _ {D : Type 0} (view : D → DiskView) (faults : D → ℕ) (old : List TapeEntry) where
  no_entry : kept_for old [] ≡ old
  no_entry = append-nil old

  nothing_failed : HasNoFault []
  nothing_failed = All-nil (λ (e : Entry). e.outcome ≡ Faulted → ⊥)

  -- without a tape
  pub begins_off : (disk : D) → StoreStands view faults (Some (Off disk)) old [] (Off disk)
  begins_off disk = (refl, nothing_failed)

  -- over a tape that was renewed
  pub begins_on : (first new : Tape D) → MayBegin view old (On first) → Renews view faults first new → StoreStands view faults (Some (On first)) old [] (On new)
  begins_on first new may renews =
      let keeps : TapeHolds view first old = may.1 in
      let tried : tried_for old [] ≡ old = tried_is old [] nothing_failed ∙ no_entry in
      record {
        same_case = renews.same;
        any_moment = λ honest.
            weaker (view first.disk) (view new.disk) (StandsFor first.digest old) (StandsForSome first.digest old (tried_for old []))
            (λ c stands. subst (λ (l : List TapeEntry). StandsForSome first.digest old l c) (sym tried) (some_all first.digest old old (omega arith) c stands))
            (renews.images old keeps (may.2 honest));
        goes_on = λ _. subst (λ (l : List TapeEntry). GoesOn view faults first l new) (sym no_entry) (record {
          running = renews.running;
          renewed = renews.renewed;
          keeps = renews.keeps old keeps;
          steady = λ honest. renews.steady old keeps (may.2 honest);
          no_fault = renews.counts;
        });
        has_stopped = λ faulted. absurd (faulted nothing_failed);
      }

-- ---- what a store that stands says

module _ {D : Type 0} (view : D → DiskView) (faults : D → ℕ) where
  keeps_on : (first : Option (Store D)) (old : List TapeEntry) (J : List Entry) (store : Store D) → StoreStands view faults first old J store → HasNoFault J
      → length J < 200000 → length old ≤ 1000000 → CanKeep store
  keeps_on None old J store stands none few few_old = absurd stands
  keeps_on (Some (Off disk)) old J (Off now) stands none few few_old = tt
  keeps_on (Some (Off disk)) old J (On tape) stands none few few_old = absurd stands
  keeps_on (Some (On tape)) old J (Off now) stands none few few_old = absurd stands
  keeps_on (Some (On first)) old J (On tape) stands none few few_old =
      let going : GoesOn view faults first (kept_for old J) tape = stands.goes_on none in
      let count = going.keeps.count in
      let both = length-append old (executions J) in
      let some = executions_few J in
      (going.running, going.renewed, omega arith)

  -- there is room for an execution more
  pub can_keep : (first : Option (Store D)) (c : ClusterId) (J : List Entry) (store : Store D) → StandsBy view faults c first J store → HasNoFault J
      → length J < 200000 → length c.old ≤ 1000000 → CanKeep store
  can_keep first c J store stands none few few_old = keeps_on first c.old J store stands.stored none few few_old

  -- nothing fails without a tape
  pub taped_fault : (first : Option (Store D)) (old : List TapeEntry) (J : List Entry) (store : Store D) (place : ℕ) (entry : Entry)
      → StoreStands view faults first old J store → slice_get J place ≡ Some entry → entry.outcome ≡ Faulted → IsTaped first
  taped_fault None old J store place entry stands at fault = absurd stands
  taped_fault (Some (Off disk)) old J (Off now) place entry stands at fault =
      absurd (subst (λ (e : Entry). e.outcome ≡ Faulted → ⊥) (get_or_from_slice_get J place entry entry at) (stands.1 place entry (slice_get_within J place entry at)) fault)
  taped_fault (Some (Off disk)) old J (On tape) place entry stands at fault = absurd stands
  taped_fault (Some (On tape)) old J store place entry stands at fault = tt

-- ---- what a call is told

module _ {D : Type 0} (view : D → DiskView) (faults : D → ℕ) (first : Option (Store D)) (c : ClusterId) (J : List Entry) (entry : Entry)
    (store : Store D) (call : Call) (found : Outcome) (stands : StandsBy view faults c first J store) (none : HasNoFault J) (is_call : IsCall c call)
    (asked : entry.call ≡ call) (seq : entry.seq ≡ made_by entry.session J) (is : found ≡ answer_after c J call) where
  sound : IsSoundRunOf c J
  sound = record { legal = stands.legal; no_fault = none }

  in_range : IsCall c entry.call
  in_range = subst (IsCall c) (sym asked) is_call

  answered : entry.outcome ≡ found → entry.outcome ≡ answer_after c J entry.call
  answered same = same ∙ is ∙ ap (answer_after c J) (sym asked)

  legal_as : entry.outcome ≡ found → IsRunOf c (J ++ entry ∷ [])
  legal_as same = (sound_more c.rules c.owned (begun c) J sound entry in_range seq (answered same)).legal

  -- what was found, where that is no execution that was done
  pub stands_as_found : ((i e : ℕ) → call ≡ Exec i e → found ≡ Done → ⊥) → entry.outcome ≡ found → StandsBy view faults c first (J ++ entry ∷ []) store
  stands_as_found other same = record {
    legal = legal_as same;
    stored = store_spared view faults c.old J entry none first store
        (λ fault. answer_no_fault c.rules c.owned (marking_after c J) entry.call (sym (answered same) ∙ fault))
        (ap (λ (outcome : Outcome). execution_of entry.call outcome) same ∙ ap (λ (a : Call). execution_of a found) asked ∙ no_execution call found other)
        stands.stored;
  }

  -- what an execution that is to be done is told, where the store stands for it
  pub stands_as_told : (new : Store D) → found ≡ Done → IsToldAs first found entry.outcome → StoreStands view faults first c.old (J ++ entry ∷ []) new
      → StandsBy view faults c first (J ++ entry ∷ []) new
  stands_as_told new done (as_found same) stored = record { legal = legal_as same; stored = stored }
  stands_as_told new done (as_fault taped _ fault) stored = record {
    legal = legal_fault c.rules c.owned (begun c) J sound entry in_range seq (ap (answer_after c J) asked ∙ sym is ∙ done) fault;
    stored = stored;
  }

  -- the same, where it is told as it was kept or failed to be
  pub stands_as_kept : (new : Store D) (kept : Bool) → found ≡ Done → IsToldAs first Done (kept_as kept) → entry.outcome ≡ kept_as kept → StoreStands view faults first c.old (J ++ entry ∷ []) new
      → StandsBy view faults c first (J ++ entry ∷ []) new
  stands_as_kept new kept done told same stored =
      stands_as_told new done (subst (λ (o : Outcome). IsToldAs first o entry.outcome) (sym done) (subst (λ (o : Outcome). IsToldAs first Done o) (sym same) told)) stored
