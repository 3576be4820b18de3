-- What is done for the sites beside calls: they are seated, told their streams, and asked at the end.
use Rattle.std.specs.Prelude.{◌≡◌, ◌≢◌, ℕ, ◌+◌, ◌-◌, ◌<◌, min, List, length, slice_get, slice_set, Option, Some, Result, Ok, Err, ⊤}
use Rattle.dcr_base.specs.Link.{IsUnfailed, Links}
use Rattle.dcr_base.specs.declared.failed.Failed.{Failed}
use Rattle.dcr_graph.specs.Cause.{waits}
use Rattle.dcr_graph.specs.declared.marking.SiteMark.{SiteMark}
use Rattle.dcr_journal.specs.Run.{marks_at}
use Rattle.dcr_journal.specs.declared.call.Entry.{Entry}
use Rattle.dcr_cell.specs.ClusterId.{ClusterId, IsRunOf, marking_after}
use Rattle.dcr_wire.specs.declared.answer.Told.{Told}
use Rattle.dcr_wire.specs.Laws.{sent_answer, sent_question}
use Rattle.dcr_wire.specs.declared.answer.Answer.{Answer}
use Rattle.dcr_wire.specs.declared.question.Asked.{Asked}
use Rattle.dcr_wire.specs.declared.question.Asked.TheVariants.{Waits}
use Rattle.dcr_node.specs.Gathering.{gathering}
use Rattle.dcr_node.specs.JournalState.{JournalState, question_at, stream_of, with_gathered}
use Rattle.dcr_node.specs.Laws.{what_is_told}
use Rattle.dcr_node.specs.declared.gathered.Gathered.{Gathered}
use Rattle.dcr_seat.specs.Asking.{Writes}
use Rattle.dcr_seat.specs.InStep.{told_of}
use Rattle.dcr_seat.specs.declared.seat.Seat.{Seat}
use Rattle.dcr_porter.specs.Porter.{HasBack}
use Rattle.dcr_porter.specs.declared.brought.Brought.{Brought}
use Rattle.dcr_porter.specs.declared.brought.Brought.TheVariants.{Link, Nobody, Shut}
use Rattle.dcr_order.specs.Going.{Answers, Ends}
use Rattle.dcr_order.specs.declared.guest.Guest.{Guest}
use Rattle.dcr_order.specs.declared.place.Place.{Place}
use Rattle.dcr_order.specs.declared.place.Place.TheVariants.{Away, Here}

-- what is brought has the number of its place among the links that it had
abbrev pub IsNumbered : {L : Type 0} → Option (List L) → Result (Brought (Guest L)) Failed → Type 0
IsNumbered links (Ok (Link guest)) = (all : List _) → links ≡ Some all → slice_get all guest.number ≡ Some guest.link
IsNumbered links (Ok Nobody) = ⊤
IsNumbered links (Ok Shut) = ⊤
IsNumbered links (Err failed) = ⊤

-- and has counted no fault
abbrev pub IsFreshGuest : {L R : Type 0} → Links L R → Result (Brought (Guest L)) Failed → Type 0
IsFreshGuest links (Ok (Link guest)) = IsUnfailed links guest.link
IsFreshGuest links (Ok Nobody) = ⊤
IsFreshGuest links (Ok Shut) = ⊤
IsFreshGuest links (Err failed) = ⊤

-- the site was away, and has this link now, over which it was told nothing
pub record Seats {L : Type 0} (i : ℕ) (guest : Guest L) (places after : List (Place L)) : Type 0 where
  pub was_away : slice_get places i ≡ Some Away
  pub is_here : after ≡ slice_set places i (Here (record { link = guest.link; number = guest.number; told = 0 }))

-- the site has a link
abbrev pub IsHere : {L : Type 0} → ℕ → List (Place L) → Type 0
IsHere i places = (seat : Seat _) × (slice_get places i ≡ Some (Here seat))

-- what stays of the guest's link was handed back
pub record TakesBack {L R : Type 0} (each : Links L R) (guest : Guest L) (back back_then : Option (List (ℕ × R))) : Type 0 where
  pub rest : R
  pub unread : each.unread rest ≡ each.gives guest.link
  pub sent : each.sent rest ≡ each.takes guest.link
  pub has : HasBack back guest.number rest back_then

-- The site was told all of its stream and asked this at its end, and has answered; or it is away.
pub data AsksAtEnd {L R : Type 0} (each : Links L R) (j : JournalState) (i : ℕ) (asked : Asked) (places after : List (Place L)) (back back_then : Option (List (ℕ × R))) : Type 0 where
  answered : (answer : Answer) → Answers each j i (sent_question (question_at j i asked)) (sent_answer answer) places after → back_then ≡ back → AsksAtEnd each j i asked places after back back_then
  is_away : Ends each i places after back back_then → AsksAtEnd each j i asked places after back back_then

-- The site has a link already, which was asked what the site waits for: so it is there still, or was ended. The guest was handed back
-- behind it.
pub record TurnsAway {L R : Type 0} (each : Links L R) (j : JournalState) (i : ℕ) (guest : Guest L) (places after : List (Place L)) (back back_then : Option (List (ℕ × R))) : Type 0 where
  pub was_here : IsHere i places
  pub mid : Option (List (ℕ × R))
  pub asked : AsksAtEnd each j i Waits places after back mid
  pub taken : TakesBack each guest mid back_then

-- the site has a link, and wasn't told all of its stream
abbrev pub IsLate : {L : Type 0} → JournalState → ℕ → List (Place L) → Type 0
IsLate j i places = (seat : Seat _) × (slice_get places i ≡ Some (Here seat)) × (seat.told < length (stream_of j i))

-- of how many executions a site is told next by one write that was told of so many
abbrev pub next_many : JournalState → ℕ → ℕ → ℕ
next_many j i told = min (length (stream_of j i) - told) 290

-- the site was told of the next executions of its stream
pub record TellsNext {L R : Type 0} (each : Links L R) (j : JournalState) (i : ℕ) (places after : List (Place L)) : Type 0 where
  pub seat : Seat L
  pub seat_then : Seat L
  pub here : slice_get places i ≡ Some (Here seat)
  pub places_then : after ≡ slice_set places i (Here seat_then)
  pub number : seat_then.number ≡ seat.number
  pub told : seat_then.told ≡ seat.told + next_many j i seat.told
  pub writes : Writes (told_of j i seat.told (next_many j i seat.told)) (each.takes seat.link) (each.takes seat_then.link)
  pub apart : each.gives seat_then.link ≡ each.gives seat.link

-- The site has nothing to be told, or was told of the next executions of its stream, or its link failed and was ended.
pub data Tells {L R : Type 0} (each : Links L R) (j : JournalState) (i : ℕ) (places after : List (Place L)) (back back_then : Option (List (ℕ × R))) : Type 0 where
  nothing : (IsLate j i places → ⊥) → after ≡ places → back_then ≡ back → Tells each j i places after back back_then
  next : TellsNext each j i places after → back_then ≡ back → Tells each j i places after back back_then
  fails : IsLate j i places → Ends each i places after back back_then → Tells each j i places after back back_then

-- what a site told is gathered, which was asked for this
pub record GathersFrom (j after : JournalState) (i : ℕ) (asked : Asked) : Type 0 where
  pub told : Told
  pub kind : what_is_told told ≡ asked
  pub is : after ≡ with_gathered j (gathering j.gathered i told)

-- nothing changed but what is gathered
abbrev pub OnlyGathers : JournalState → JournalState → Type 0
OnlyGathers j after = (gathered : List Gathered) × (after ≡ with_gathered j gathered)

-- the site told its marks
abbrev pub HasMarks : Gathered → Type 0
HasMarks g = (mark : SiteMark) × (g.marks ≡ Some mark)

-- the site told what it waits for
abbrev pub HasWaits : Gathered → Type 0
HasWaits g = (event : Option ℕ) × (g.waits ≡ Some event)

-- it told both
pub record HasTold (g : Gathered) : Type 0 where
  pub marks : HasMarks g
  pub waits : HasWaits g

-- and so each of the first so many sites
abbrev pub HaveTold : JournalState → ℕ → Type 0
HaveTold j count = (i : ℕ) (g : Gathered) → i < count → slice_get j.gathered i ≡ Some g → HasTold g

-- the site with this number told more, and nothing that it had told is lost
pub record TellsMore (j after : JournalState) (i : ℕ) : Type 0 where
  pub only : OnlyGathers j after
  pub others : (k : ℕ) (g : Gathered) → k ≢ i → slice_get after.gathered k ≡ Some g → slice_get j.gathered k ≡ Some g
  pub kept : (g : Gathered) → slice_get after.gathered i ≡ Some g → (was : Gathered) × (slice_get j.gathered i ≡ Some was) × (HasMarks was → HasMarks g) × (HasWaits was → HasWaits g)

-- These are a run of the graph, and what the sites told at the end is the graph's.
pub record EndsAsTheGraph (c : ClusterId) (J : List Entry) (marks : List SiteMark) (event : Option ℕ) : Type 0 where
  pub legal : IsRunOf c J
  pub marks_are : marks ≡ marks_at c.rules c.owned (marking_after c J)
  pub waits_are : event ≡ waits c.rules.atoms (marking_after c J)
