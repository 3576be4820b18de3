-- What is done under the journal's lock, seen from the state of the guard before it.
use Rattle.std.specs.Prelude.{◌≡◌, ℕ, ◌+◌, ◌<◌, ◌≤◌, List, [], ◌∷◌, ◌++◌, length, Option, Result, MatchResult}
use Rattle.dcr_base.specs.Disk.{DiskView}
use Rattle.dcr_journal.specs.Run.{HasNoFault, made_by}
use Rattle.dcr_journal.specs.declared.call.Call.{Call}
use Rattle.dcr_journal.specs.declared.call.Outcome.{Outcome}
use Rattle.dcr_tape.specs.declared.tape.Store.{Store}
use Rattle.dcr_turn.specs.FrontValue.{FrontValue}
use Rattle.dcr_turn.specs.GuardValue.{GuardValue}
use Rattle.dcr_turn.specs.PassValue.{PassValue}
use Rattle.dcr_turn.specs.Pushing.{AllHear, entry_of}
use Rattle.dcr_turn.specs.TurnId.{TurnId}
use Rattle.dcr_cell.specs.ClusterId.{ClusterId, IsNamed, IsCall, answer_after}
use Rattle.dcr_cell.specs.Keeping.{IsToldAs, StandsBy}
use Rattle.dcr_cell.specs.declared.kept.Kept.{Kept}
use Rattle.dcr_cluster.specs.Calls.{Returned, Shows}
use Rattle.dcr_cluster.specs.declared.halt.Halt.{Halt}

module _ {D N : Type 0} (view : D → DiskView) (faults : D → ℕ) (c : ClusterId) (first : Option (Store D)) (capacity : ℕ) where
  -- A call may enter: the pass has been met, the kept value stands for the list, and of an execution that is to be done
  -- all hear whose fronts are these sites'.
  pub record MayEnter (turn : TurnId) (guard : GuardValue (Kept D N)) (pass : PassValue) (call : Call) (found : Outcome) (sites : List ℕ) : Type 0 where
    pub named : IsNamed c turn
    pub most_entries : capacity ≤ 200000
    pub in_range : IsCall c call
    pub met : pass.front ≡ guard.entries
    pub made : pass.made ≡ made_by pass.session guard.entries
    pub stands : StandsBy view faults c first guard.entries guard.kept.store
    pub hear : AllHear turn.alphabets sites call found

  -- the entry was made; where what was found is the graph's answer, the kept value stands for the longer list
  pub record PushedAs (old new : GuardValue (Kept D N)) (before after : PassValue) (call : Call) (found outcome : Outcome) : Type 0 where
    pub no_fault : HasNoFault old.entries
    pub room : length old.entries < capacity
    pub told : IsToldAs first found outcome
    pub entries : new.entries ≡ old.entries ++ entry_of before call outcome ∷ []
    pub session : after.session ≡ before.session
    pub made : after.made ≡ before.made + 1
    pub stands : found ≡ answer_after c old.entries call → StandsBy view faults c first new.entries new.kept.store

  -- no entry was made
  pub record PushedNone (old new : GuardValue (Kept D N)) (before after : PassValue) (halt : Halt) : Type 0 where
    pub entries : new.entries ≡ old.entries
    pub shows : Shows first capacity old.entries halt
    pub session : after.session ≡ before.session
    pub made : after.made ≡ before.made
    pub stands : StandsBy view faults c first new.entries new.kept.store

  pub record Pushed (old new : GuardValue (Kept D N)) (before after : PassValue) (call : Call) (found : Outcome) (result : Result Outcome Halt) : Type 0 where
    pub enlisted : new.enlisted ≡ old.enlisted
    pub front : after.front ≡ new.entries
    pub call_ends : MatchResult result (PushedAs old new before after call found) (PushedNone old new before after)

  -- the same with fronts, which had missed no entry that was there before
  pub record Entered (turn : TurnId) (old new : GuardValue (Kept D N)) (before after : PassValue) (fronts fronts_after : List FrontValue) (call : Call) (found : Outcome)
      (result : Result Outcome Halt) : Type 0 where
    pub pushed : Pushed old new before after call found result
    pub returned : Returned turn old.entries new.entries fronts fronts_after
