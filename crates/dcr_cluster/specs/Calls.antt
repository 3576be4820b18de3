-- What a call of a cluster does to the pass that makes it, and to the fronts of the sites whose locks it holds.
use Rattle.std.specs.Prelude.{◌≡◌, ℕ, ◌+◌, ◌<◌, List, [], ◌∷◌, ◌++◌, length, map, slice_get, Option, Some, None, Result, Ok, Err, MatchResult}
use Rattle.std.specs.List.{All}
use Rattle.dcr_journal.specs.Run.{HasNoFault, event_done}
use Rattle.dcr_journal.specs.declared.call.Call.{Call}
use Rattle.dcr_journal.specs.declared.call.Entry.{Entry}
use Rattle.dcr_journal.specs.declared.call.Outcome.{Outcome}
use Rattle.dcr_journal.specs.declared.call.Outcome.TheVariants.{Faulted}
use Rattle.dcr_tape.specs.declared.tape.Store.{Store}
use Rattle.dcr_turn.specs.FrontValue.{FrontValue, HasMissedNone}
use Rattle.dcr_turn.specs.PassValue.{PassValue, HasMadeAll}
use Rattle.dcr_turn.specs.Pushing.{entry_of}
use Rattle.dcr_turn.specs.TurnId.{TurnId}
use Rattle.dcr_cell.specs.ClusterId.{ClusterId, IsRunOf, IsSoundRunOf, answer_after}
use Rattle.dcr_cell.specs.Keeping.{IsToldAs}
use Rattle.dcr_cell.specs.Stored.{IsTaped}
use Rattle.dcr_cluster.specs.declared.halt.Halt.{Halt}
use Rattle.dcr_cluster.specs.declared.halt.Halt.TheVariants.{Full, Stopped}

-- The call was answered after the entries J, of which all that are the session's were made by the pass and stand in what
-- it had seen. Nothing failed in J, and there was room for one entry more. The outcome is the graph's answer after J; or
-- that is `Done`, the tape failed to keep the execution, and the outcome is `Faulted`. What the pass has seen then is J
-- and the entry of this call, a run of the graph.
pub record AnsweredAfter {D : Type 0} (c : ClusterId) (first : Option (Store D)) (capacity : ℕ) (J : List Entry) (before after : PassValue) (call : Call) (outcome : Outcome) : Type 0 where
  pub seen : HasMadeAll before J
  pub sound : IsSoundRunOf c J
  pub room : length J < capacity
  pub answered : IsToldAs first (answer_after c J call) outcome
  pub session : after.session ≡ before.session
  pub made : after.made ≡ before.made + 1
  pub front : after.front ≡ J ++ entry_of before call outcome ∷ []
  pub legal : IsRunOf c after.front

-- the entries show why no call comes after them: a fault ends them, or else they are as many as there may be
abbrev pub Shows : {D : Type 0} → Option (Store D) → ℕ → List Entry → Halt → Type 0
Shows first capacity J (Full most) = (most ≡ capacity) × (length J ≡ capacity) × HasNoFault J
Shows first capacity J (Stopped at) = IsTaped first × (at + 1 ≡ length J) × ((entry : Entry) × (slice_get J at ≡ Some entry) × (entry.outcome ≡ Faulted))

-- The call halted after the entries J, and made no entry. What the pass has seen then is J, a run of the graph, in which
-- the session's entries are those that it had made.
pub record HaltedAfter {D : Type 0} (c : ClusterId) (first : Option (Store D)) (capacity : ℕ) (J : List Entry) (before after : PassValue) (halt : Halt) : Type 0 where
  pub seen : HasMadeAll before J
  pub legal : IsRunOf c J
  pub session : after.session ≡ before.session
  pub made : after.made ≡ before.made
  pub front : after.front ≡ J
  pub shows : Shows first capacity J halt

abbrev pub EndsAfter : {D : Type 0} → ClusterId → Option (Store D) → ℕ → List Entry → PassValue → PassValue → Call → Result Outcome Halt → Type 0
EndsAfter c first capacity J before after call result =
    MatchResult result (AnsweredAfter c first capacity J before after call) (HaltedAfter c first capacity J before after)

-- what a call is answered that has come to its end, where this is what it was told
abbrev pub ending : Outcome → Result (Unit {0}) Halt → Result Outcome Halt
ending told (Ok made) = Ok told
ending told (Err halt) = Err halt

-- the event, where the call is an execution that was answered as done: that of which its participants must hear
abbrev pub done_by : Call → Result Outcome Halt → Option ℕ
done_by call (Ok outcome) = event_done call outcome
done_by call (Err halt) = None

-- the front of the same site that has seen these entries
abbrev pub seeing : List Entry → FrontValue → FrontValue
seeing seen f = record { site = f.site; front = seen }

-- of the entries J no front had missed any, and then each has seen these
pub record Returned (turn : TurnId) (J seen : List Entry) (before after : List FrontValue) : Type 0 where
  pub missed_none : All (λ f. HasMissedNone turn f J) before
  pub fronts : after ≡ map (seeing seen) before

-- A call that holds the locks of the sites of these fronts has come to its end.
pub record Made {D : Type 0} (c : ClusterId) (first : Option (Store D)) (capacity : ℕ) (turn : TurnId) (before after : PassValue) (fronts fronts_after : List FrontValue) (call : Call) (result : Result Outcome Halt) : Type 0 where
  pub J : List Entry
  pub ends : EndsAfter c first capacity J before after call result
  pub returned : Returned turn J after.front fronts fronts_after

-- nothing was done yet: the pass, the fronts and what was found are as they were
pub record Untried (before after : PassValue) (fronts fronts_after : List FrontValue) (found told : Outcome) : Type 0 where
  pub same_pass : after ≡ before
  pub same_fronts : fronts_after ≡ fronts
  pub same_found : told ≡ found

-- A call was tried with fewer locks than it may want, and has come to its end, or nothing was done.
abbrev pub Tried : {D : Type 0} → ClusterId → Option (Store D) → ℕ → TurnId → PassValue → PassValue → List FrontValue → List FrontValue → Call → Outcome → Outcome
    → Option (Result (Unit {0}) Halt) → Type 0
Tried c first capacity turn before after fronts fronts_after call found told (Some ended) = Made c first capacity turn before after fronts fronts_after call (ending told ended)
Tried c first capacity turn before after fronts fronts_after call found told None = Untried before after fronts fronts_after found told
