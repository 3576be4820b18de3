-- What a call is answered that has the journal's lock.
use Rattle.std.proofs.Common.{◌≡◌, ℕ, ◌+◌, List, [], ◌∷◌, ◌++◌, Option, Result, Ok, Err, sym, ap, ◌∙◌, subst, ◌≤◌, append-nil}
use Rattle.std.specs.Prelude.{MatchResult}
use Rattle.std.specs.List.{All}
use Rattle.dcr_base.specs.Disk.{DiskView}
use Rattle.dcr_journal.specs.Run.{made_by}
use Rattle.dcr_journal.specs.declared.call.Call.{Call}
use Rattle.dcr_journal.specs.declared.call.Entry.{Entry}
use Rattle.dcr_journal.specs.declared.call.Outcome.{Outcome}
use Rattle.dcr_tape.specs.declared.tape.Store.{Store}
use Rattle.dcr_turn.specs.FrontValue.{FrontValue, HasMissedNone}
use Rattle.dcr_turn.specs.GuardValue.{GuardValue}
use Rattle.dcr_turn.specs.PassValue.{PassValue, HasMadeAll}
use Rattle.dcr_turn.specs.Pushing.{AllHear, entry_of}
use Rattle.dcr_turn.specs.TurnId.{TurnId}
use Rattle.dcr_cell.specs.Asking.{AreEnough, Found, sites_of}
use Rattle.dcr_cell.specs.ClusterId.{ClusterId, IsNamed, IsCall, IsRunOf, answer_after}
use Rattle.dcr_cell.specs.Keeping.{IsToldAs, StandsBy}
use Rattle.dcr_cell.specs.declared.kept.Kept.{Kept}
use Rattle.dcr_cell.proofs.AskLemmas.{settled, hear_all}
use Rattle.dcr_cell.proofs.RunLemmas.{calls_of_run}
use Rattle.dcr_cluster.specs.Calls.{EndsAfter, Returned, Made}
use Rattle.dcr_cluster.specs.Entering.{Entered, MayEnter, PushedAs, PushedNone}
use Rattle.dcr_cluster.specs.declared.halt.Halt.{Halt}

-- what was found at all sites of a call is the answer after the entries that the journal has
holds : (c : ClusterId) (turn : TurnId) (call : Call) (fronts : List FrontValue) (found : Outcome) (J : List Entry) → IsNamed c turn → IsCall c call
    → AreEnough c turn call (sites_of fronts) found → Found c call fronts found → IsRunOf c J → All (λ f. HasMissedNone turn f J) fronts → found ≡ answer_after c J call
holds c turn call fronts found J named is_call asked is run none = settled c turn call fronts found named is_call asked is J (calls_of_run c J run) none

entry_alike : (before met : PassValue) (call : Call) (outcome : Outcome) → met.session ≡ before.session → met.made ≡ before.made → entry_of met call outcome ≡ entry_of before call outcome
entry_alike before met call outcome session made =
    ap (λ k. record { session = k; seq = met.made; call = call; outcome = outcome }) session ∙ ap (λ n. record { session = before.session; seq = n; call = call; outcome = outcome }) made

module _ {D N : Type 0} (view : D → DiskView) (faults : D → ℕ) (c : ClusterId) (first : Option (Store D)) (capacity : ℕ) where
  -- the kept value stands for the list then
  stands_then : (old new : GuardValue (Kept D N)) (before after : PassValue) (call : Call) (found : Outcome) (result : Result Outcome Halt)
      → MatchResult result (PushedAs view faults c first capacity old new before after call found) (PushedNone view faults c first capacity old new before after)
      → found ≡ answer_after c old.entries call → StandsBy view faults c first new.entries new.kept.store
  stands_then old new before after call found (Ok outcome) p answered = p.stands answered
  stands_then old new before after call found (Err halt) p answered = p.stands

  ends_so : (old new : GuardValue (Kept D N)) (before met after : PassValue) (call : Call) (found : Outcome) (result : Result Outcome Halt)
      → HasMadeAll before old.entries → met.session ≡ before.session → met.made ≡ before.made
      → StandsBy view faults c first old.entries old.kept.store → found ≡ answer_after c old.entries call → after.front ≡ new.entries
      → MatchResult result (PushedAs view faults c first capacity old new met after call found) (PushedNone view faults c first capacity old new met after)
      → EndsAfter c first capacity old.entries before after call result
  ends_so old new before met after call found (Ok outcome) seen session made stands answered front p = record {
    seen = seen;
    sound = record { legal = stands.legal; no_fault = p.no_fault };
    room = p.room;
    answered = subst (λ (o : Outcome). IsToldAs first o outcome) answered p.told;
    session = p.session ∙ session;
    made = p.made ∙ ap (λ n. n + 1) made;
    front = front ∙ p.entries ∙ ap (λ (e : Entry). old.entries ++ e ∷ []) (entry_alike before met call outcome session made);
    legal = subst (IsRunOf c) (sym front) (p.stands answered).legal;
  }
  ends_so old new before met after call found (Err halt) seen session made stands answered front p = record {
    seen = seen;
    legal = stands.legal;
    session = p.session ∙ session;
    made = p.made ∙ made;
    front = front ∙ p.entries;
    shows = p.shows;
  }

  -- a call that has met the journal may enter
  pub ready_met : (turn : TurnId) (locked met : GuardValue (Kept D N)) (before pass : PassValue) (fronts : List FrontValue) (call : Call) (found : Outcome)
      → IsNamed c turn → capacity ≤ 200000 → IsCall c call → met ≡ locked → locked.enlisted ≡ [] → StandsBy view faults c first locked.entries locked.kept.store
      → pass.session ≡ before.session → pass.front ≡ locked.entries → pass.made ≡ before.made → HasMadeAll before locked.entries
      → AreEnough c turn call (sites_of fronts) found → Found c call fronts found
      → MayEnter view faults c first capacity turn met pass call found (sites_of fronts ++ met.enlisted)
  ready_met turn locked met before pass fronts call found named most is_call same none stands session front made seen asked is_found =
      subst (λ (g : GuardValue (Kept D N)). MayEnter view faults c first capacity turn g pass call found (sites_of fronts ++ g.enlisted)) (sym same) record {
        named = named;
        most_entries = most;
        in_range = is_call;
        met = front;
        made = made ∙ seen.made ∙ ap (λ k. made_by k locked.entries) (sym session);
        stands = stands;
        hear = subst (λ (sites : List ℕ). AllHear turn.alphabets sites call found) (sym (append-nil (sites_of fronts)) ∙ ap (λ l. sites_of fronts ++ l) (sym none))
            (hear_all c turn call fronts found named is_call asked is_found);
      }

  -- the kept value stands for the list when the call has entered
  pub still_stands : (turn : TurnId) (met new : GuardValue (Kept D N)) (pass after : PassValue) (fronts fronts_after : List FrontValue) (call : Call) (found : Outcome) (sites : List ℕ) (result : Result Outcome Halt)
      → AreEnough c turn call (sites_of fronts) found → Found c call fronts found → MayEnter view faults c first capacity turn met pass call found sites
      → Entered view faults c first capacity turn met new pass after fronts fronts_after call found result → StandsBy view faults c first new.entries new.kept.store
  still_stands turn met new pass after fronts fronts_after call found sites result asked is ready entered =
      stands_then met new pass after call found result entered.pushed.call_ends
      (holds c turn call fronts found met.entries ready.named ready.in_range asked is ready.stands.legal entered.returned.missed_none)

  -- and the call has been made
  pub entered_is_made : (turn : TurnId) (locked met new : GuardValue (Kept D N)) (before pass after : PassValue) (fronts fronts_after : List FrontValue) (call : Call) (found : Outcome) (sites : List ℕ)
      (result : Result Outcome Halt) → met ≡ locked → HasMadeAll before locked.entries → pass.session ≡ before.session → pass.made ≡ before.made
      → AreEnough c turn call (sites_of fronts) found → Found c call fronts found → MayEnter view faults c first capacity turn met pass call found sites
      → Entered view faults c first capacity turn met new pass after fronts fronts_after call found result
      → Made c first capacity turn before after fronts fronts_after call result
  entered_is_made turn locked met new before pass after fronts fronts_after call found sites result same seen session made asked is ready entered = record {
    J = met.entries;
    ends = ends_so met new before pass after call found result (subst (λ (g : GuardValue (Kept D N)). HasMadeAll before g.entries) (sym same) seen) session made ready.stands
        (holds c turn call fronts found met.entries ready.named ready.in_range asked is ready.stands.legal entered.returned.missed_none) entered.pushed.front entered.pushed.call_ends;
    returned = subst (λ (seen : List Entry). Returned turn met.entries seen fronts fronts_after) (sym entered.pushed.front) entered.returned;
  }
