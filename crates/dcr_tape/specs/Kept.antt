-- What a `Tape` is made of, and the entries that it keeps.
use Rattle.std.specs.Prelude.{◌≡◌, IsTrue, List, length, Option, Some, None, Vec}
use Rattle.std.specs.declared.alloc.Global.{Global}
use Rattle.dcr_base.specs.Disk.{DiskView}
use Rattle.dcr_tape.specs.Tape.{Part, Holds}
use Rattle.dcr_tape.specs.declared.entry.TapeEntry.{TapeEntry}
use Rattle.dcr_tape.specs.declared.tape.Tape.{Tape}
use Rattle.dcr_tape.specs.declared.width.Width.{Width}
use Rattle.dcr_tape.specs.declared.width.Width.TheVariants.{Eight, Twelve}

-- a tape that isn't renewed keeps its entries for its renewal
abbrev pub width_by : Option (Vec TapeEntry Global) → Width
width_by None = Twelve
width_by (Some old) = Eight

abbrev pub KeptForRenewal : Option (Vec TapeEntry Global) → List TapeEntry → Type 0
KeptForRenewal None entries = Unit {0}
KeptForRenewal (Some old) entries = old.items ≡ entries

-- the part that the tape is at
abbrev pub part_of : {D : Type 0} → Tape D → Part
part_of tape = record { start = tape.start; width = width_by tape.unrenewed; digest = tape.digest }

-- the disk's content stands for these entries by the part that the tape is at
pub record TapeHolds {D : Type 0} (view : D → DiskView) (tape : Tape D) (entries : List TapeEntry) : Type 0 where
  pub told : IsTrue (view tape.disk).told
  pub holds : Holds (view tape.disk).content (part_of tape) entries
  pub count : tape.count ≡ length entries
  pub kept : KeptForRenewal tape.unrenewed entries
