-- An execution that its own site blocks, made with the lock of that site alone.
use Rattle.std.proofs.Common.{◌≡◌, ℕ, List, Option, None, Result, Ok, Err, refl, sym, ap, ◌∙◌}
use Rattle.dcr_journal.specs.Run.{event_done}
use Rattle.dcr_journal.specs.declared.call.Call.{Call}
use Rattle.dcr_journal.specs.declared.call.Call.TheVariants.{Exec}
use Rattle.dcr_journal.specs.declared.call.Outcome.{Outcome}
use Rattle.dcr_journal.specs.declared.call.Outcome.TheVariants.{Done}
use Rattle.dcr_tape.specs.declared.tape.Store.{Store}
use Rattle.dcr_turn.specs.FrontValue.{FrontValue}
use Rattle.dcr_turn.specs.PassValue.{PassValue}
use Rattle.dcr_turn.specs.TurnId.{TurnId}
use Rattle.dcr_cell.specs.Asking.{AreEnough, Found, sites_of}
use Rattle.dcr_cell.specs.ClusterId.{ClusterId, IsNamed, IsCall, answer_after}
use Rattle.dcr_cell.specs.Keeping.{IsToldAs, as_found, as_fault}
use Rattle.dcr_cell.proofs.AskLemmas.{no_event, settled}
use Rattle.dcr_cell.proofs.RunLemmas.{calls_of_run}
use Rattle.dcr_cluster.specs.Calls.{Made, done_by}
use Rattle.dcr_cluster.specs.declared.halt.Halt.{Halt}

-- of an execution that is not done no site must hear
pub spares_all : (i e : ℕ) (outcome : Outcome) → (outcome ≡ Done → ⊥) → event_done (Exec i e) outcome ≡ None
spares_all i e Done blocked = absurd (blocked refl)
spares_all i e outcome blocked = refl

told_none : {D : Type 0} (first : Option (Store D)) (call : Call) (found told : Outcome) → event_done call found ≡ None → IsToldAs first found told → event_done call told ≡ None
told_none first call found told none (as_found same) = ap (event_done call) same ∙ none
told_none first call found told none (as_fault taped done fault) = ap (event_done call) fault ∙ no_event call

-- what was found to spare all is told as nothing that was done
pub spared : {D : Type 0} (c : ClusterId) (first : Option (Store D)) (capacity : ℕ) (turn : TurnId) (before after : PassValue) (fronts fronts_after : List FrontValue) (call : Call) (found : Outcome)
    (result : Result Outcome Halt) → IsNamed c turn → IsCall c call → AreEnough c turn call (sites_of fronts) found → Found c call fronts found → event_done call found ≡ None
    → Made c first capacity turn before after fronts fronts_after call result → done_by call result ≡ None
spared c first capacity turn before after fronts fronts_after call found (Err halt) named is_call enough is none made = refl
spared c first capacity turn before after fronts fronts_after call found (Ok outcome) named is_call enough is none made =
    let answer : found ≡ answer_after c made.J call =
    settled c turn call fronts found named is_call enough is made.J (calls_of_run c made.J made.ends.sound.legal) made.returned.missed_none in
    told_none first call (answer_after c made.J call) outcome (ap (event_done call) (sym answer) ∙ none) made.ends.answered
