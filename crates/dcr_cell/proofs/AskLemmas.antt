-- What was found at the sites of a call, and that it holds.
use Rattle.std.proofs.Common.{◌≡◌, ◌⊎◌, inl, inr, ℕ, ◌<◌, Bool, true, false, List, [], ◌∷◌, ◌++◌, length, map, Option, Some, None, cond, refl, sym, ap, ◌∙◌, subst, arith}
use Rattle.std.specs.Prelude.{slice_index_or}
use Rattle.std.specs.List.{Contains, fold}
use Rattle.std.proofs.lemmas.Bool.{cases_lt, false≢true, or_left}
use Rattle.std.proofs.lemmas.List.{get_or_past, length-map, map-append}
use Rattle.std.proofs.lemmas.List.Elements.{All-contains, Contains-append_left, Contains-push, Contains-push_cases}
use Rattle.std.proofs.lemmas.List.Sums.{fold_push}
use Rattle.dcr_set.specs.EventSet.{Set, has, those}
use Rattle.dcr_set.proofs.NumbersLemmas.{numbers_from_member}
use Rattle.dcr_set.proofs.SetLemmas.{has-those}
use Rattle.dcr_graph.specs.Cause.{cause}
use Rattle.dcr_graph.specs.Projection.{in_alphabet, tracks_included}
use Rattle.dcr_graph.specs.Rows.{row}
use Rattle.dcr_graph.specs.Rules.{Rules}
use Rattle.dcr_graph.specs.declared.kind.Cause.{Cause}
use Rattle.dcr_graph.specs.declared.marking.Marking.{Marking}
use Rattle.dcr_set.specs.Least.{lesser}
use Rattle.dcr_site.specs.Decision.{by_cause, decision, owned_waits}
use Rattle.dcr_site.specs.declared.site.Decision.TheVariants as decided
use Rattle.dcr_journal.specs.Answer.{answer, outcome_of, outcome_decided, verdict_of}
use Rattle.dcr_journal.specs.Run.{event_done}
use Rattle.dcr_journal.specs.declared.call.Call.{Call}
use Rattle.dcr_journal.specs.declared.call.Call.TheVariants.{Exec, Look, Enabled, Accepting}
use Rattle.dcr_journal.specs.declared.call.Outcome.{Outcome}
use Rattle.dcr_journal.specs.declared.call.Outcome.TheVariants.{Done, NotHere, Faulted}
use Rattle.dcr_proj.specs.NetworkValue.{participants_of}
use Rattle.dcr_tape.specs.declared.tape.Store.{Store}
use Rattle.dcr_turn.specs.FrontValue.{FrontValue, HasMissedNone}
use Rattle.dcr_turn.specs.Pushing.{AllHear}
use Rattle.dcr_turn.specs.TurnId.{TurnId}
use Rattle.dcr_cell.specs.Asking.{AreEnough, Found, FoundAt, WillHold, sites_for, sites_of}
use Rattle.dcr_cell.specs.ClusterId.{ClusterId, IsNamed, IsCall, alphabet_of, marking_after, answer_after}
use Rattle.dcr_cell.specs.Keeping.{IsToldAs, as_found, as_fault}
use Rattle.dcr_cell.specs.Laws.{asked, waits_by}
use Rattle.dcr_cell.proofs.DecisionLemmas.{alphabet_at, answers_hold, waits_hold}

-- ---- who hears

-- the turn has the sites of the cluster
pub as_many_sites : (c : ClusterId) (turn : TurnId) → IsNamed c turn → length turn.alphabets ≡ length c.owned
as_many_sites c turn named = ap length named.alphabets ∙ length-map c.owned (alphabet_of c)

-- whose alphabet has the event is a participant
participates : (alphabets : List Set) (event i : ℕ) → has (slice_index_or alphabets i []) event ≡ true → Contains (participants_of alphabets event) i
participates alphabets event i hears = elim (cases_lt i (length alphabets)) [
  | inl within ↦
      numbers_from_member (those (length alphabets) (λ (k : ℕ). has (slice_index_or alphabets k []) event)) i
      (has-those (length alphabets) (λ (k : ℕ). has (slice_index_or alphabets k []) event) i within ∙ hears)
  | inr past ↦ absurd (false≢true (sym (ap (λ (set : Set). has set event) (get_or_past alphabets i [] past)) ∙ hears))
]

-- so is the owner of the event
owner_hears : (c : ClusterId) (turn : TurnId) (i e : ℕ) → IsNamed c turn → i < length c.owned → e < c.rules.atoms → has (row c.owned i) e ≡ true
    → Contains (participants_of turn.alphabets e) i
owner_hears c turn i e named within atom owned =
    let S = row c.owned i in
    participates turn.alphabets e i
    (ap (λ (set : Set). has set e) (alphabet_at c turn i named within)
    ∙ has-those c.rules.atoms (in_alphabet c.rules S) e atom
    ∙ or_left (tracks_included c.rules S e) _ (or_left (has S e) _ owned))

no_fronts : (fronts : List FrontValue) → sites_of fronts ≡ [] → fronts ≡ []
no_fronts [] none = refl
no_fronts (f ∷ fronts) none = absurd cc

-- ---- that it holds

module _ (c : ClusterId) (turn : TurnId) (call : Call) (fronts : List FrontValue) (found : Outcome) (named : IsNamed c turn) (is_call : IsCall c call) (is : Found c call fronts found) where
  settled_one : (i : ℕ) → asked call ≡ Some i → Contains (sites_of fronts) i → WillHold c turn call fronts found
  settled_one i at there = λ J calls none.
      let here = is.one i at there in
      here.answer ∙ answers_hold c turn here.front J call named is_call (at ∙ ap Some (sym here.site)) calls (All-contains (λ f. HasMissedNone turn f J) fronts here.front none here.among)

settled_exec : (c : ClusterId) (turn : TurnId) (i e : ℕ) (fronts : List FrontValue) (found : Outcome) → IsNamed c turn → IsCall c (Exec i e)
    → (owned : Bool) → has (row c.owned i) e ≡ owned → sites_of fronts ≡ cond owned (participants_of turn.alphabets e) []
    → Found c (Exec i e) fronts found → WillHold c turn (Exec i e) fronts found
settled_exec c turn i e fronts found named is_call true owned are is =
    settled_one c turn (Exec i e) fronts found named is_call is i refl
    (subst (λ (sites : List ℕ). Contains sites i) (sym are) (owner_hears c turn i e named is_call.0 is_call.1 owned))
settled_exec c turn i e fronts found named is_call false owned are is = λ J calls none.
    is.nowhere (no_fronts fronts are) owned ∙ sym (ap (λ (b : Bool). cond b (outcome_of (cause c.rules (marking_after c J) e)) NotHere) owned)

-- what was found at all sites of a call is the graph's answer
settled_by_all : (c : ClusterId) (turn : TurnId) (call : Call) (fronts : List FrontValue) (found : Outcome) → IsNamed c turn → IsCall c call
    → sites_of fronts ≡ sites_for c turn call → Found c call fronts found → WillHold c turn call fronts found
settled_by_all c turn (Exec i e) fronts found named is_call are is =
    settled_exec c turn i e fronts found named is_call (has (row c.owned i) e) refl are is
settled_by_all c turn (Look i) fronts found named is_call are is =
    settled_one c turn (Look i) fronts found named is_call is i refl (subst (λ (sites : List ℕ). Contains sites i) (sym are) (0, omega arith, refl))
settled_by_all c turn (Enabled i) fronts found named is_call are is =
    settled_one c turn (Enabled i) fronts found named is_call is i refl (subst (λ (sites : List ℕ). Contains sites i) (sym are) (0, omega arith, refl))
settled_by_all c turn Accepting fronts found named is_call are is = λ J calls none. is.all refl ∙ waits_hold c turn fronts J named are calls none

-- and so it is where the locks are enough
pub settled : (c : ClusterId) (turn : TurnId) (call : Call) (fronts : List FrontValue) (found : Outcome) → IsNamed c turn → IsCall c call
    → AreEnough c turn call (sites_of fronts) found → Found c call fronts found → WillHold c turn call fronts found
settled c turn call fronts found named is_call (inl are) is = settled_by_all c turn call fronts found named is_call are is
settled c turn call fronts found named is_call (inr one) is =
    settled_one c turn call fronts found named is_call is one.site one.asks (subst (λ (sites : List ℕ). Contains sites one.site) (sym one.alone) (0, omega arith, refl))

-- ---- that all hear

event_is : (i e event : ℕ) (outcome : Outcome) → event_done (Exec i e) outcome ≡ Some event → e ≡ event
event_is i e event Done is = cc
event_is i e event outcome is = absurd cc

hear_exec : (c : ClusterId) (turn : TurnId) (i e : ℕ) (fronts : List FrontValue) (found : Outcome) → (owned : Bool) → has (row c.owned i) e ≡ owned → sites_of fronts ≡ cond owned (participants_of turn.alphabets e) []
    → Found c (Exec i e) fronts found → AllHear turn.alphabets (sites_of fronts) (Exec i e) found
hear_exec c turn i e fronts found true owned are is = λ event done k hears.
    subst (λ (sites : List ℕ). Contains sites k) (sym are)
    (participates turn.alphabets e k (ap (λ (a : ℕ). has (slice_index_or turn.alphabets k []) a) (event_is i e event found done) ∙ hears))
hear_exec c turn i e fronts found false owned are is = λ event done k hears.
    absurd (let none : None ≡ Some event = ap (event_done (Exec i e)) (sym (is.nowhere (no_fronts fronts are) owned)) ∙ done in cc)

-- and all that must hear of it are among them
hear_by_all : (c : ClusterId) (turn : TurnId) (call : Call) (fronts : List FrontValue) (found : Outcome) → IsNamed c turn → IsCall c call
    → sites_of fronts ≡ sites_for c turn call → Found c call fronts found → AllHear turn.alphabets (sites_of fronts) call found
hear_by_all c turn (Exec i e) fronts found named is_call are is = hear_exec c turn i e fronts found (has (row c.owned i) e) refl are is
hear_by_all c turn (Look i) fronts found named is_call are is = λ event done k hears. absurd cc
hear_by_all c turn (Enabled i) fronts found named is_call are is = λ event done k hears. absurd cc
hear_by_all c turn Accepting fronts found named is_call are is = λ event done k hears. absurd cc

-- and so they are where the locks are enough
pub hear_all : (c : ClusterId) (turn : TurnId) (call : Call) (fronts : List FrontValue) (found : Outcome) → IsNamed c turn → IsCall c call
    → AreEnough c turn call (sites_of fronts) found → Found c call fronts found → AllHear turn.alphabets (sites_of fronts) call found
hear_all c turn call fronts found named is_call (inl are) is = hear_by_all c turn call fronts found named is_call are is
hear_all c turn call fronts found named is_call (inr one) is = λ event done k hears. absurd (let none : None ≡ Some event = sym one.spares ∙ done in cc)

pub no_event : (call : Call) → event_done call Faulted ≡ None
no_event (Exec i e) = refl
no_event (Look i) = refl
no_event (Enabled i) = refl
no_event Accepting = refl

-- the same of what the call is told
pub hear_told : {D : Type 0} (first : Option (Store D)) (turn : TurnId) (call : Call) (sites : List ℕ) (found told : Outcome)
    → IsToldAs first found told → AllHear turn.alphabets sites call found → AllHear turn.alphabets sites call told
hear_told first turn call sites found told (as_found same) hear = subst (AllHear turn.alphabets sites call) (sym same) hear
hear_told first turn call sites found told (as_fault taped done fault) hear = λ event is k hears.
    absurd (let none : None ≡ Some event = sym (no_event call) ∙ ap (event_done call) (sym fault) ∙ is in cc)

-- ---- one site more is asked

not_none : (fronts : List FrontValue) (front : FrontValue) → fronts ++ front ∷ [] ≡ [] → ⊥
not_none [] front is = absurd cc
not_none (f ∷ fronts) front is = absurd cc

sites_more : (fronts : List FrontValue) (front : FrontValue) → sites_of (fronts ++ front ∷ []) ≡ sites_of fronts ++ front.site ∷ []
sites_more fronts front = map-append (λ (f : FrontValue). f.site) fronts (front ∷ [])

module _ (c : ClusterId) (call : Call) (fronts : List FrontValue) (front : FrontValue) (found result : Outcome) where
  -- the site that is asked
  pub asked_here : asked call ≡ Some front.site → result ≡ answer_after c front.front call → Found c call (fronts ++ front ∷ []) result
  asked_here here answered = record {
    nowhere = λ none stranger. absurd (not_none fronts front none);
    one = λ i is there. record { front = front; among = Contains-push fronts front; site = cc; answer = answered };
    all = λ none. absurd cc;
  }

  at_another : (i : ℕ) → asked call ≡ Some i → ¬ (i ≡ front.site) → Found c call fronts found
      → Contains (sites_of fronts) i ⊎ (front.site ≡ i) → FoundAt c call (fronts ++ front ∷ []) i found
  at_another i at other is (inl among) =
      let here = is.one i at among in
      record { front = here.front; among = Contains-append_left fronts (front ∷ []) here.front here.among; site = here.site; answer = here.answer }
  at_another i at other is (inr same) = absurd (other (sym same))

  -- another site
  pub asked_elsewhere : (j : ℕ) → asked call ≡ Some j → ¬ (j ≡ front.site) → Found c call fronts found → Found c call (fronts ++ front ∷ []) found
  asked_elsewhere j at other is = record {
    nowhere = λ none stranger. absurd (not_none fronts front none);
    one = λ i is_i there.
        at_another i is_i (λ same. other (let e : j ≡ i = cc in e ∙ same)) is
        (Contains-push_cases (sites_of fronts) front.site i (subst (λ (sites : List ℕ). Contains sites i) (sites_more fronts front) there));
    all = λ none. absurd cc;
  }

  -- all sites together
  pub asked_all : asked call ≡ None → ((before : Option ℕ) → found ≡ verdict_of before → result ≡ verdict_of (lesser before (owned_waits c.rules (row c.owned front.site) (marking_after c front.front))))
      → Found c call fronts found → Found c call (fronts ++ front ∷ []) result
  asked_all none sooner is =
      let waits_of : FrontValue → Option ℕ = λ f. owned_waits c.rules (row c.owned f.site) (marking_after c f.front) in
      record {
        nowhere = λ no_front stranger. absurd (not_none fronts front no_front);
        one = λ i at there. absurd cc;
        all = λ _.
            sooner (waits_by c fronts) (is.all none)
            ∙ ap verdict_of (sym (ap (fold lesser None) (map-append waits_of fronts (front ∷ [])) ∙ fold_push lesser None (map waits_of fronts) (waits_of front)));
      }

-- the execution that asks a site is one by it
pub execution_by : (call : Call) (i j e : ℕ) → call ≡ Exec j e → asked call ≡ Some i → call ≡ Exec i e
execution_by call i j e is asks =
    let some : Some j ≡ Some i = sym (ap asked is) ∙ asks in
    let same : j ≡ i = cc in
    is ∙ ap (λ (k : ℕ). Exec k e) same

-- what a site decides of an event is the answer
pub decided_is : (G : Rules) (C : List Set) (i e : ℕ) (M : Marking) → outcome_decided (decision G (row C i) M e) ≡ answer G C M (Exec i e)
decided_is G C i e M = by_case (has (row C i) e) (cause G M e)
  where
    by_case : (owned : Bool) (why : Option Cause) → outcome_decided (cond owned (by_cause why) decided.NotHere) ≡ cond owned (outcome_of why) NotHere
    by_case true None = refl
    by_case true (Some why) = refl
    by_case false why = refl
