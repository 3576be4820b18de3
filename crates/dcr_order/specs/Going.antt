-- What becomes of the places of the sites.
use Rattle.std.specs.Prelude.{◌≡◌, ℕ, List, slice_get, slice_set, Option, Some}
use Rattle.std.specs.Io.KnownBytes.{Appends, Consumes}
use Rattle.dcr_base.specs.Link.{Links}
use Rattle.dcr_porter.specs.Porter.{HasBack}
use Rattle.dcr_wire.specs.Laws.{Sent}
use Rattle.dcr_node.specs.JournalState.{JournalState}
use Rattle.dcr_seat.specs.Asking.{Answered}
use Rattle.dcr_seat.specs.declared.seat.Seat.{Seat}
use Rattle.dcr_order.specs.declared.place.Place.{Place}
use Rattle.dcr_order.specs.declared.place.Place.TheVariants.{Away, Here}

-- bytes may have been read and written since
pub record GoesOn {L R : Type 0} (each : Links L R) (link : L) (rest : R) : Type 0 where
  pub read : List ℕ
  pub written : List ℕ
  pub reads : Consumes (each.gives link).bytes (each.unread rest).bytes read
  pub writes : Appends (each.takes link).bytes (each.sent rest).bytes written

-- the site is away; where it had a link that was ended, and what stays of it was handed back
pub data Ends {L R : Type 0} (each : Links L R) (i : ℕ) (places after : List (Place L)) (back back_then : Option (List (ℕ × R))) : Type 0 where
  was_away : slice_get places i ≡ Some Away → after ≡ places → back_then ≡ back → Ends each i places after back back_then
  has_left : (seat : Seat L) (rest : R) → slice_get places i ≡ Some (Here seat) → after ≡ slice_set places i Away → GoesOn each seat.link rest → HasBack back seat.number rest back_then
      → Ends each i places after back back_then

-- The site was asked this and has answered that, and has the same link.
pub record Answers {L R : Type 0} (each : Links L R) (j : JournalState) (i : ℕ) (question answer : Sent) (places after : List (Place L)) : Type 0 where
  pub seat : Seat L
  pub seat_then : Seat L
  pub here : slice_get places i ≡ Some (Here seat)
  pub places_then : after ≡ slice_set places i (Here seat_then)
  pub answered : Answered each.gives each.takes j i question answer seat seat_then
