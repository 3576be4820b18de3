-- The places of the sites, and what came of their links, hang on the links that the porter told.
use Rattle.std.specs.Prelude.{◌≡◌, ℕ, ◌≤◌, List, [], ◌++◌, length, slice_get, Option, Some, ⊤}
use Rattle.std.specs.List.{All, Contains}
use Rattle.dcr_base.specs.Link.{Links}
use Rattle.dcr_cell.specs.ClusterId.{ClusterId}
use Rattle.dcr_site.specs.declared.site.Decision.TheVariants.{Enabled}
use Rattle.dcr_wire.specs.Laws.{Sent, sent_message}
use Rattle.dcr_wire.specs.declared.message.Message.TheVariants.{Vote}
use Rattle.dcr_node.specs.JournalState.{JournalState, execution, stream_of, with_out}
use Rattle.dcr_talk.specs.Truth.{AreTrue, IsRightJournal}
use Rattle.dcr_seat.specs.Exchange.{Talk}
use Rattle.dcr_seat.specs.InStep.{AreTold, questions_in}
use Rattle.dcr_seat.specs.declared.seat.Seat.{Seat}
use Rattle.dcr_order.specs.Acts.{Moment, Act, proposes, withdraws, hears, answers_of, after_acts, IsHonestAct}
use Rattle.dcr_order.specs.declared.place.Place.{Place}
use Rattle.dcr_order.specs.declared.place.Place.TheVariants.{Here}

-- there is a place for each site, and no site was told of more than its stream has
pub record HaveRoomToTell {L : Type 0} (j : JournalState) (places : List (Place L)) : Type 0 where
  pub many : length places ≡ length j.alphabets
  pub told : (i : ℕ) (seat : Seat L) → slice_get places i ≡ Some (Here seat) → seat.told ≤ length (stream_of j i)

module _ {L R : Type 0} (each : Links L R) (links : Option (List L)) (before : Option (List (ℕ × R))) (greets : ℕ → List ℕ → List ℕ → Type 0) (c : ClusterId) where
  -- over the link of the seat the site was told so many executions, and has answered all that it was asked
  pub record IsSeated (j : JournalState) (i : ℕ) (seat : Seat L) : Type 0 where
    pub asked : List Sent
    pub answers : List Sent
    pub talk : Talk each links greets seat.number i asked answers [] [] (each.gives seat.link) (each.takes seat.link)
    pub told : AreTold c.rules c.owned c.opening j i seat.told asked
    pub within : seat.told ≤ length (stream_of j i)
    pub even : length answers ≡ questions_in asked

  -- this was handed back since
  abbrev pub CameBack : Option (List (ℕ × R)) → List (ℕ × R) → Type 0
  CameBack back since = (had : List (ℕ × R)) × (before ≡ Some had) × (back ≡ Some (had ++ since))

  -- the talk of a link went through this moment
  abbrev pub WentThrough : Moment → R → Type 0
  WentThrough m rest = (unheard unasked : List ℕ) × Talk each links greets m.number m.site m.asked (answers_of m) unheard unasked (each.unread rest) (each.sent rest)

  -- the moment is of a talk over the link that the site has, or over one of which stays what was handed back since
  pub data IsOfTalk (places : List (Place L)) (back : Option (List (ℕ × R))) (m : Moment) : Type 0 where
    over_here : (seat : Seat L) (unheard unasked : List ℕ) → slice_get places m.site ≡ Some (Here seat) → seat.number ≡ m.number
        → Talk each links greets m.number m.site m.asked (answers_of m) unheard unasked (each.gives seat.link) (each.takes seat.link) → IsOfTalk places back m
    came_back : ((since : List (ℕ × R)) → CameBack back since → (rest : R) × Contains since (m.number, rest) × WentThrough m rest) → IsOfTalk places back m

  -- what was handed to the journal was read of the site's link, and all that it had been asked was answered then
  abbrev pub IsHeard : List (Place L) → Option (List (ℕ × R)) → Act → Type 0
  IsHeard places back (proposes p) = ⊤
  IsHeard places back withdraws = ⊤
  IsHeard places back (hears m) = IsOfTalk places back m × (length (answers_of m) ≡ questions_in m.asked)

  -- The site had voted that this execution can be done: over a link of the site this vote was read, behind what was told and asked
  -- truly with the execution out, and all that the site had been asked was answered then.
  pub record HasVoted (j : JournalState) (places : List (Place L)) (back : Option (List (ℕ × R))) (session i e : ℕ) : Type 0 where
    pub moment : Moment
    pub site : moment.site ≡ i
    pub vote : moment.answer ≡ sent_message (Vote (length j.history.entries) i Enabled)
    pub heard : IsHeard places back (hears moment)
    pub are_true : AreTrue c.rules c.owned c.opening (with_out j (execution session i e)) moment.asked

  pub record AreLinked (j : JournalState) (places : List (Place L)) (back : Option (List (ℕ × R))) (acts : List Act) : Type 0 where
    pub many : length places ≡ length c.owned
    pub seated : (i : ℕ) (seat : Seat L) → slice_get places i ≡ Some (Here seat) → IsSeated j i seat
    pub heard : All (IsHeard places back) acts
    -- nothing that was handed back before is lost
    pub returned : (had all : List (ℕ × R)) → before ≡ Some had → back ≡ Some all → (since : List (ℕ × R)) × (all ≡ had ++ since)

  -- the journal is what these acts make of the one that stood at first, and where all that was read is what the sites' machines
  -- answer, it is right
  pub record IsLed (first j : JournalState) (places : List (Place L)) (back : Option (List (ℕ × R))) (acts : List Act) : Type 0 where
    pub by_acts : j ≡ after_acts first acts
    pub linked : AreLinked j places back acts
    pub right : All (IsHonestAct c.rules c.owned c.opening) acts → IsRightJournal c.rules c.owned c.opening j

  -- by some acts
  abbrev pub IsLedFrom : JournalState → JournalState → List (Place L) → Option (List (ℕ × R)) → Type 0
  IsLedFrom first j places back = (acts : List Act) × IsLed first j places back acts
