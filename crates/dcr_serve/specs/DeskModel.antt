-- What the fields under a desk's lock stand for.
use Rattle.std.specs.Prelude.{◌≡◌, ℕ, ◌≤◌, List, Option, map}
use Rattle.dcr_base.specs.Door.{Doors}
use Rattle.dcr_serve.specs.DeskValue.{DeskValue}
use Rattle.dcr_serve.specs.Left.{numbers_from, AreAllButFirst}
use Rattle.dcr_serve.specs.declared.counter.Counter.TheInside.{Inside}
use Rattle.dcr_serve.specs.Stand.{StandsSo}

abbrev pub desk_of : {B P N L R : Type 0} → Inside B P N L R → DeskValue B P
desk_of d = record { door = d.door; items = d.items.items; taken = d.book.total; stand = d.stand }

-- The items and links that are left are those that were not given, and the door stands as it answered. `number` and `doors`
-- are what an item and the door tell; `count`, `all` and `first` are how many items there were, and the links and faults at first.
pub record IsDesk {B P N L R : Type 0} (number : P → ℕ) (doors : Doors B L R)
    (count : ℕ) (all : Option (List L)) (first : ℕ) (d : Inside B P N L R) : Type 0 where
  pub items : map number d.items.items ≡ numbers_from d.book.total count
  pub within : d.book.total ≤ count
  pub left : AreAllButFirst all d.book.total (doors.links d.door)
  pub stands : StandsSo doors first d.stand d.door
