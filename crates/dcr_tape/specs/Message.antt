-- What is shown of the errors.
use Rattle.std.specs.Prelude.{ℕ, List, codes}
use Rattle.dcr_tape.specs.declared.cause.TapeCause.{TapeCause}
use Rattle.dcr_tape.specs.declared.cause.TapeCause.TheVariants.{NotTape, OtherGraph, BadTape, Long, DiskFault, NoMemory}
use Rattle.dcr_tape.specs.declared.stop.RenewStop.{RenewStop}
use Rattle.dcr_tape.specs.declared.stop.RenewStop.TheVariants.{DiskFault as disk_fault, NoMemory as no_memory}

abbrev pub cause_text : TapeCause → List ℕ
cause_text NotTape = codes "the disk holds no tape"
cause_text (OtherGraph found) = codes "the tape is another case's"
cause_text (BadTape at) = codes "the tape has a bad record"
cause_text Long = codes "the tape is too long"
cause_text DiskFault = codes "the disk failed"
cause_text NoMemory = codes "out of memory"

abbrev pub stop_text : RenewStop → List ℕ
stop_text disk_fault = codes "the disk failed"
stop_text no_memory = codes "out of memory"
