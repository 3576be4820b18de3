-- What the fields of a `MemDoor` stand for.
use Rattle.std.specs.List.{All}
use Rattle.dcr_fakes.specs.DoorState.{DoorState}
use Rattle.dcr_fakes.specs.LinkState.{IsFresh}
use Rattle.dcr_fakes.specs.declared.mem_door.MemDoor.TheInside.{Inside}

abbrev pub door_of : Inside → DoorState
door_of d = record { links = d.links.items; calls = d.calls }

-- no link that is left has counted a fault
abbrev pub HasFreshLinks : Inside → Type 0
HasFreshLinks d = All IsFresh d.links.items
