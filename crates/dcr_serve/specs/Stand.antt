-- How a door stands once it was asked.
use Rattle.std.specs.Prelude.{◌≡◌, ℕ}
use Rattle.dcr_base.specs.Count.{Fails}
use Rattle.dcr_base.specs.Door.{Doors}
use Rattle.dcr_serve.specs.declared.stand.DoorStand.{DoorStand}
use Rattle.dcr_serve.specs.declared.stand.DoorStand.TheVariants.{Open, Shut, Failed}

-- a door that has shut tells so, and one has counted a fault since the first count exactly where it has failed
abbrev pub StandsSo : {B L R : Type 0} → Doors B L R → ℕ → DoorStand → B → Type 0
StandsSo doors first Open door = doors.faults door ≡ first
StandsSo doors first Shut door = doors.is_shut door × (doors.faults door ≡ first)
StandsSo doors first Failed door = Fails first (doors.faults door)
