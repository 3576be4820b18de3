-- Which sites a call asks, and what was found at those whose locks are held.
use Rattle.std.specs.Prelude.{◌≡◌, ◌⊎◌, false, ℕ, List, [], ◌∷◌, length, map, Some, None, if◌then◌else◌}
use Rattle.std.specs.List.{All, Contains, range_with_len}
use Rattle.dcr_set.specs.EventSet.{has}
use Rattle.dcr_graph.specs.Rows.{row}
use Rattle.dcr_journal.specs.Answer.{verdict_of}
use Rattle.dcr_journal.specs.Run.{event_done}
use Rattle.dcr_journal.specs.declared.call.Call.{Call}
use Rattle.dcr_journal.specs.declared.call.Call.TheVariants.{Exec, Look, Enabled, Accepting}
use Rattle.dcr_journal.specs.declared.call.Entry.{Entry}
use Rattle.dcr_journal.specs.declared.call.Outcome.{Outcome}
use Rattle.dcr_journal.specs.declared.call.Outcome.TheVariants.{NotHere}
use Rattle.dcr_proj.specs.NetworkValue.{participants_of}
use Rattle.dcr_turn.specs.FrontValue.{FrontValue, HasMissedNone}
use Rattle.dcr_turn.specs.TurnId.{TurnId}
use Rattle.dcr_cell.specs.ClusterId.{ClusterId, answer_after}
use Rattle.dcr_cell.specs.Laws.{AreCalls, asked, waits_by}

-- The sites that must answer a call or hear of it, ascending: for an execution by a site that owns the event all that must hear of
-- it, and none by another; for a look and the question what is enabled that site; for the question whether the marking
-- is accepting all sites.
abbrev pub sites_for : ClusterId → TurnId → Call → List ℕ
sites_for c turn (Exec i e) = if has (row c.owned i) e then participants_of turn.alphabets e else []
sites_for c turn (Look i) = i ∷ []
sites_for c turn (Enabled i) = i ∷ []
sites_for c turn Accepting = range_with_len 0 (length c.owned)

-- The one site of these is the one that the call asks, and what was found there is no execution that is done.
pub record AreAskedAlone (call : Call) (sites : List ℕ) (found : Outcome) : Type 0 where
  pub site : ℕ
  pub asks : asked call ≡ Some site
  pub alone : sites ≡ site ∷ []
  pub spares : event_done call found ≡ None

-- With the locks of these sites a call can be made of which this was found: they are all that it takes; or it is one that
-- the asked site answers, and of which no other must hear.
abbrev pub AreEnough : ClusterId → TurnId → Call → List ℕ → Outcome → Type 0
AreEnough c turn call sites found = (sites ≡ sites_for c turn call) ⊎ AreAskedAlone call sites found

-- the sites of fronts
abbrev pub sites_of : List FrontValue → List ℕ
sites_of fronts = map (λ (f : FrontValue). f.site) fronts

-- an execution by a site that doesn't own the event, for which no site is asked
abbrev pub IsByAStranger : ClusterId → Call → Type 0
IsByAStranger c (Exec i e) = has (row c.owned i) e ≡ false
IsByAStranger c (Look i) = ⊥
IsByAStranger c (Enabled i) = ⊥
IsByAStranger c Accepting = ⊥

-- a front of this site among these, after whose entries the graph gives this answer
pub record FoundAt (c : ClusterId) (call : Call) (fronts : List FrontValue) (i : ℕ) (outcome : Outcome) : Type 0 where
  pub front : FrontValue
  pub among : Contains fronts front
  pub site : front.site ≡ i
  pub answer : outcome ≡ answer_after c front.front call

-- what was found at the sites of these fronts, each asked at the entries that its front has seen
pub record Found (c : ClusterId) (call : Call) (fronts : List FrontValue) (outcome : Outcome) : Type 0 where
  pub nowhere : fronts ≡ [] → IsByAStranger c call → outcome ≡ NotHere
  pub one : (i : ℕ) → asked call ≡ Some i → Contains (sites_of fronts) i → FoundAt c call fronts i outcome
  pub all : asked call ≡ None → outcome ≡ verdict_of (waits_by c fronts)

-- what was found is the graph's answer after all entries of which these fronts have missed none
abbrev pub WillHold : ClusterId → TurnId → Call → List FrontValue → Outcome → Type 0
WillHold c turn call fronts outcome = (J : List Entry) → AreCalls c J → All (λ f. HasMissedNone turn f J) fronts → outcome ≡ answer_after c J call
