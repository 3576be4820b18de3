-- What became of the links of the sites, of which none is lost: each is there, or what stays of it was handed back.
use Rattle.std.specs.Prelude.{◌≡◌, ℕ, List, ◌++◌, slice_get, Option, Some}
use Rattle.std.specs.List.{Contains}
use Rattle.dcr_base.specs.Link.{Links}
use Rattle.dcr_seat.specs.Asking.{Broken}
use Rattle.dcr_seat.specs.declared.seat.Seat.{Seat}
use Rattle.dcr_order.specs.Going.{GoesOn}
use Rattle.dcr_order.specs.declared.place.Place.{Place}
use Rattle.dcr_order.specs.declared.place.Place.TheVariants.{Here}

-- where it is told what was handed back, it is this more
abbrev pub HandedSince : {R : Type 0} → Option (List (ℕ × R)) → Option (List (ℕ × R)) → List (ℕ × R) → Type 0
HandedSince back back_then more = (had : List (ℕ × _)) × (back ≡ Some had) × (back_then ≡ Some (had ++ more))

-- the site has the link still, or what stays of it was handed back; bytes may have been read and written over it before
pub data StaysOrLeaves {L R : Type 0} (each : Links L R) (i : ℕ) (seat : Seat L) (back : Option (List (ℕ × R))) (after : List (Place L)) (back_then : Option (List (ℕ × R))) : Type 0 where
  stays : (seat_then : Seat L) → slice_get after i ≡ Some (Here seat_then) → Broken each.gives each.takes seat seat_then → StaysOrLeaves each i seat back after back_then
  leaves : (rest : R) → GoesOn each seat.link rest → ((more : List (ℕ × R)) → HandedSince back back_then more → Contains more (seat.number, rest))
      → StaysOrLeaves each i seat back after back_then

-- no link is lost, and nothing that was handed back before
pub record IsBehind {L R : Type 0} (each : Links L R) (places : List (Place L)) (back : Option (List (ℕ × R))) (after : List (Place L)) (back_then : Option (List (ℕ × R))) : Type 0 where
  pub returned : (all : List (ℕ × R)) → back_then ≡ Some all → (more : List (ℕ × R)) × HandedSince back back_then more
  pub links : (i : ℕ) (seat : Seat L) → slice_get places i ≡ Some (Here seat) → StaysOrLeaves each i seat back after back_then
