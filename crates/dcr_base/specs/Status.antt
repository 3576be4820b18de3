-- The number that the process ends with.
use Rattle.std.specs.Prelude.{ℕ}
use Rattle.dcr_base.specs.declared.status.Status.{Status}
use Rattle.dcr_base.specs.declared.status.Status.TheVariants.{Done, Usage, Refused, ReadFault, WriteFault, NoMemory, DiskFault, Invalid, Full, TapeRefused, DoorFault}

abbrev pub code_of : Status → ℕ
code_of Done = 0
code_of Usage = 2
code_of Refused = 3
code_of ReadFault = 4
code_of WriteFault = 5
code_of NoMemory = 6
code_of DiskFault = 7
code_of Invalid = 8
code_of Full = 9
code_of TapeRefused = 10
code_of DoorFault = 11
