-- What is done under the lock: an entry that was made, and none.
use Rattle.std.proofs.Common.{◌≡◌, ℕ, zero, suc, ◌+◌, ◌-◌, ◌<◌, true, false, List, [], ◌∷◌, ◌++◌, length, get_or, replicate, Option, refl, sym, ap, subst, ◌∙◌, append-nil, arith}
use Rattle.std.specs.Prelude.{slice_get, Result, Ok, Err, IfOk, IfErr}
use Rattle.std.proofs.lemmas.Bool.{false≢true}
use Rattle.std.proofs.lemmas.List.Elements.{All-nil}
use Rattle.std.proofs.lemmas.Option.{slice_get_within, slice_get-get_or}
use Rattle.dcr_base.specs.Disk.{DiskView}
use Rattle.dcr_base.specs.Link.{Links}
use Rattle.dcr_set.specs.EventSet.{Set, has}
use Rattle.dcr_journal.specs.Run.{HasNoFault, made_by}
use Rattle.dcr_journal.specs.declared.call.Call.{Call}
use Rattle.dcr_journal.specs.declared.call.Entry.{Entry}
use Rattle.dcr_journal.specs.declared.call.Outcome.{Outcome}
use Rattle.dcr_journal.specs.declared.call.Outcome.TheVariants.{Faulted}
use Rattle.dcr_line.specs.Fits.{FitsEntry}
use Rattle.dcr_tape.specs.declared.tape.Store.{Store}
use Rattle.dcr_turn.specs.Covers.{is_by}
use Rattle.dcr_turn.specs.PassValue.{PassValue, HasMadeAll}
use Rattle.dcr_turn.specs.Pushing.{AllHear, EndsWithoutFault, ends_in_fault, entry_of}
use Rattle.dcr_turn.specs.TurnId.{TurnId}
use Rattle.dcr_turn.proofs.Faults.{fault_at_end}
use Rattle.dcr_cell.specs.ClusterId.{ClusterId}
use Rattle.dcr_cell.specs.Stored.{IsTaped}
use Rattle.dcr_cell.proofs.StoreLemmas.{taped_fault}
use Rattle.dcr_cluster.specs.Calls.{Shows}
use Rattle.dcr_cluster.specs.declared.halt.Halt.TheVariants.{Full, Stopped}
use Rattle.dcr_node.specs.JournalState.{JournalState}
use Rattle.dcr_order.specs.Orders.{IsOrdering}
use Rattle.dcr_order.specs.declared.place.Place.{Place}
use Rattle.dcr_order.proofs.LedLemmas.{last_of}
use Rattle.dcr_orderer.specs.Making.{EnteredAfter, StaysAt, UnmadeAfter}
use Rattle.dcr_orderer.specs.declared.unmade.Unmade.{Unmade}
use Rattle.dcr_orderer.specs.declared.unmade.Unmade.TheVariants.{Halted, Away}

-- ---- nobody need hear

no_set : (n i : ℕ) → ◌≡◌ {A = Set} (get_or (replicate n []) i []) []
no_set zero i = refl
no_set (suc n) zero = refl
no_set (suc n) (suc i) = no_set n i

-- sites that hear of nothing need not be there
pub none_hear : (alphabets : List Set) (n : ℕ) (sites : List ℕ) (call : Call) (outcome : Outcome) → alphabets ≡ replicate n [] → AllHear alphabets sites call outcome
none_hear alphabets n sites call outcome are event done i hears =
    let is : get_or alphabets i [] ≡ [] = ap (λ (A : List Set). get_or A i []) are ∙ no_set n i in
    absurd (false≢true (sym (ap (λ (s : Set). has s event) is) ∙ hears))

-- ---- a pass that was met

-- the pass has seen the list, in which the session's are its own
pub met_all : (before met : PassValue) (J : List Entry) → met.session ≡ before.session → met.made ≡ before.made → met.front ≡ J → HasMadeAll before J → HasMadeAll met J
met_all before met J session made front all = record {
  seen = record { rest = []; whole = append-nil met.front ∙ front; spared = All-nil (λ (entry : Entry). is_by met.session entry ≡ false) };
  made = made ∙ all.made ∙ ap (λ (n : ℕ). made_by n J) (sym session);
}

entry_same : (before met : PassValue) (call : Call) (outcome : Outcome) → met.session ≡ before.session → met.made ≡ before.made → entry_of met call outcome ≡ entry_of before call outcome
entry_same before met call outcome session made =
    ap (λ (n : ℕ). let x : Entry = record { session = n; seq = met.made; call = call; outcome = outcome } in x) session
    ∙ ap (λ (n : ℕ). let x : Entry = record { session = before.session; seq = n; call = call; outcome = outcome } in x) made

module _ {D : Type 0} (c : ClusterId) (first : Option (Store D)) (capacity : ℕ) (J : List Entry) (before met after : PassValue) (call : Call) (session : met.session ≡ before.session)
    (made : met.made ≡ before.made) (seen : HasMadeAll before J) where
  pub entered_met : (outcome : Outcome) → EnteredAfter c first capacity J met after call outcome → EnteredAfter c first capacity J before after call outcome
  entered_met outcome entered = record {
    seen = seen;
    no_fault = entered.no_fault;
    room = entered.room;
    taped = entered.taped;
    fits = subst (FitsEntry (length c.owned) c.rules.atoms) (entry_same before met call outcome session made) entered.fits;
    session = entered.session ∙ session;
    made = entered.made ∙ ap (λ (n : ℕ). n + 1) made;
    front = entered.front ∙ ap (λ (e : Entry). J ++ e ∷ []) (entry_same before met call outcome session made);
  }

  stays_met : StaysAt J met after → StaysAt J before after
  stays_met stays = record { seen = seen; session = stays.session ∙ session; made = stays.made ∙ made; front = stays.front }

  pub unmade_met : (why : Unmade) → UnmadeAfter c first capacity J met after call why → UnmadeAfter c first capacity J before after call why
  unmade_met (Halted halt) is = (stays_met is.0, is.1)
  unmade_met (Away site) is = (stays_met is.0, is.1)

-- ---- what is kept

pub stays : (J : List Entry) (pass : PassValue) → HasMadeAll pass J → pass.front ≡ J → StaysAt J pass pass
stays J pass all front = record { seen = all; session = refl; made = refl; front = front }

module _ {D L R : Type 0} (view : D → DiskView) (faults : D → ℕ) (each : Links L R) (links : Option (List L)) (back_before : Option (List (ℕ × R))) (greets : ℕ → List ℕ → List ℕ → Type 0) (c : ClusterId)
    (turn : TurnId) (first : Option (Store D)) (J : List Entry) (node : JournalState) (places : List (Place L)) (back : Option (List (ℕ × R))) (store : Store D)
    (stands : IsOrdering view faults each links back_before greets c turn first J node places back store) where
  -- where no fault ends the list it has none
  pub no_fault_in : EndsWithoutFault J → HasNoFault J
  no_fault_in ends = λ k entry below fault.
      let here = get_or J k entry in
      let at = slice_get-get_or J k entry below in
      let failed = stands.failed k here at fault in
      let last = failed.last in
      let place : k ≡ length J - 1 = omega arith in
      ends here (ap (slice_get J) (sym place) ∙ at) fault

  -- where one does
  pub shows_stopped : (pass : PassValue) (capacity seen : ℕ) → ends_in_fault J ≡ true → pass.front ≡ J → seen ≡ length pass.front → Shows first capacity J (Stopped (seen - 1))
  shows_stopped pass capacity seen ends met is =
      let many : seen ≡ length J = is ∙ ap (λ (K : List Entry). length K) met in
      let fault = fault_at_end J ends in
      let below : length J - 1 < length J = slice_get_within J (length J - 1) fault.0 fault.1 in (
        taped_fault view faults first c.old J store (length J - 1) fault.0 stands.stored fault.1 fault.2,
        omega arith,
        (fault.0, ap (λ (n : ℕ). slice_get J (n - 1)) many ∙ fault.1, fault.2),
      )

  -- where there is room for no entry more
  pub shows_full : (pass : PassValue) (capacity seen spare : ℕ) → EndsWithoutFault J → pass.front ≡ J → seen ≡ length pass.front → spare + length J ≡ capacity → spare ≡ 0
      → Shows first capacity J (Full seen)
  shows_full pass capacity seen spare ends met is room full =
      let many : seen ≡ length J = is ∙ ap (λ (K : List Entry). length K) met in
      (omega arith, omega arith, no_fault_in ends)

-- ---- what a call was told

pub ok_more : {A E : Type 0} (r : Result A E) (P Q : A → Type 0) → ((a : A) → P a → Q a) → IfOk r P → IfOk r Q
ok_more (Ok a) P Q more is = more a is
ok_more (Err e) P Q more is = tt

pub err_more : {A E : Type 0} (r : Result A E) (P Q : E → Type 0) → ((e : E) → P e → Q e) → IfErr r P → IfErr r Q
err_more (Ok a) P Q more is = tt
err_more (Err e) P Q more is = more e is

-- ---- an entry that was made

module _ {D L R : Type 0} (view : D → DiskView) (faults : D → ℕ) (each : Links L R) (links : Option (List L)) (back_before : Option (List (ℕ × R))) (greets : ℕ → List ℕ → List ℕ → Type 0) (c : ClusterId)
    (turn : TurnId) (first : Option (Store D)) (capacity : ℕ) (J : List Entry) (pass then : PassValue) (call : Call) (outcome : Outcome) (node : JournalState) (places : List (Place L))
    (back : Option (List (ℕ × R))) (store : Store D) where
  pub entered_one : (spare : ℕ) (entries : List Entry) → HasMadeAll pass J → HasNoFault J → spare + length J ≡ capacity → ¬ (spare ≡ 0) → (outcome ≡ Faulted → IsTaped first)
      → IsOrdering view faults each links back_before greets c turn first (J ++ entry_of pass call outcome ∷ []) node places back store → then.session ≡ pass.session → then.made ≡ pass.made + 1
      → then.front ≡ entries → entries ≡ J ++ entry_of pass call outcome ∷ [] → EnteredAfter c first capacity J pass then call outcome
  entered_one spare entries seen none room spared taped stands session made front is = record {
    seen = seen;
    no_fault = none;
    room = omega arith;
    taped = taped;
    fits = last_of (FitsEntry (length c.owned) c.rules.atoms) J (entry_of pass call outcome) stands.fits;
    session = session;
    made = made;
    front = front ∙ is;
  }
