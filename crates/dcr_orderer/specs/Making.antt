-- What a call of an order does to the pass that makes it.
use Rattle.std.specs.Prelude.{◌≡◌, ℕ, ◌+◌, ◌<◌, List, [], ◌∷◌, ◌++◌, length, Option}
use Rattle.dcr_journal.specs.Run.{HasNoFault}
use Rattle.dcr_journal.specs.declared.call.Call.{Call}
use Rattle.dcr_journal.specs.declared.call.Entry.{Entry}
use Rattle.dcr_journal.specs.declared.call.Outcome.{Outcome}
use Rattle.dcr_journal.specs.declared.call.Outcome.TheVariants.{Faulted}
use Rattle.dcr_line.specs.Fits.{FitsEntry}
use Rattle.dcr_tape.specs.declared.tape.Store.{Store}
use Rattle.dcr_turn.specs.PassValue.{PassValue, HasMadeAll}
use Rattle.dcr_turn.specs.Pushing.{entry_of}
use Rattle.dcr_cell.specs.ClusterId.{ClusterId}
use Rattle.dcr_cell.specs.Stored.{IsTaped}
use Rattle.dcr_cluster.specs.Calls.{Shows}
use Rattle.dcr_order.specs.Calling.{IsAsked}
use Rattle.dcr_orderer.specs.declared.unmade.Unmade.{Unmade}
use Rattle.dcr_orderer.specs.declared.unmade.Unmade.TheVariants.{Halted, Away}

-- The call has its entry after the entries J, of which all that are the session's were made by the pass and stand in what it had
-- seen. Nothing failed in J, and there was room. An execution fails on a tape alone, and the
-- entry of this call has a text. What the pass has seen then is J and this entry.
pub record EnteredAfter {D : Type 0} (c : ClusterId) (first : Option (Store D)) (capacity : ℕ) (J : List Entry) (before after : PassValue) (call : Call) (outcome : Outcome) : Type 0 where
  pub seen : HasMadeAll before J
  pub no_fault : HasNoFault J
  pub room : length J < capacity
  pub taped : outcome ≡ Faulted → IsTaped first
  pub fits : FitsEntry (length c.owned) c.rules.atoms (entry_of before call outcome)
  pub session : after.session ≡ before.session
  pub made : after.made ≡ before.made + 1
  pub front : after.front ≡ J ++ entry_of before call outcome ∷ []

-- No entry was made. What the pass has seen then are the entries J, in which the session's are those that it had made.
pub record StaysAt (J : List Entry) (before after : PassValue) : Type 0 where
  pub seen : HasMadeAll before J
  pub session : after.session ≡ before.session
  pub made : after.made ≡ before.made
  pub front : after.front ≡ J

-- No entry was made after the entries J, which the pass has seen then: they show why none comes after them, or a site that the
-- call asks is away.
abbrev pub UnmadeAfter : {D : Type 0} → ClusterId → Option (Store D) → ℕ → List Entry → PassValue → PassValue → Call → Unmade → Type 0
UnmadeAfter c first capacity J before after call (Halted halt) = StaysAt J before after × Shows first capacity J halt
UnmadeAfter c first capacity J before after call (Away site) = StaysAt J before after × IsAsked (length c.owned) call site
