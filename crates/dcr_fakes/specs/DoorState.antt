-- A `MemDoor` as contracts see it.
use Rattle.std.specs.Prelude.{List}
use Rattle.dcr_fakes.specs.CallLog.{CallLog}
use Rattle.dcr_fakes.specs.LinkState.{LinkState}

pub record DoorState : Type 0 where
  -- the links that were not given yet
  pub links : List LinkState
  pub calls : CallLog
