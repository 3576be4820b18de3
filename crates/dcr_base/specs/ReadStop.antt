-- What is shown of a `ReadStop`, and which of them counts a fault.
use Rattle.std.specs.Prelude.{◌≡◌, ℕ, List, Result, Ok, Err, codes}
use Rattle.dcr_base.specs.Count.{Fails}
use Rattle.dcr_base.specs.declared.reading.ReadStop.{ReadStop}
use Rattle.dcr_base.specs.declared.reading.ReadStop.TheVariants.{TooLong, ReadFault, NoMemory}

abbrev pub message_of : ReadStop → List ℕ
message_of TooLong = codes "the input is too long"
message_of ReadFault = codes "the input failed"
message_of NoMemory = codes "out of memory"

-- a fault was counted exactly where a read failed
abbrev pub CountsRead : {T : Type 0} → Result T ReadStop → ℕ → ℕ → Type 0
CountsRead (Ok bytes) old new = new ≡ old
CountsRead (Err TooLong) old new = new ≡ old
CountsRead (Err ReadFault) old new = Fails old new
CountsRead (Err NoMemory) old new = new ≡ old
