-- The header, and the records so far.
use Rattle.std.proofs.Common.{◌≡◌, ◌++◌, take}
use Rattle.dcr_tape.specs.Tape.{header_bytes, records_from}
use Rattle.dcr_tape.specs.declared.width.Width.TheVariants.{Twelve}
use Rattle.dcr_tape.proofs.renew.wide_part.Given as goal

abbrev pub invariant-loop-number : goal.invariant-loop-number
invariant-loop-number l = l.part.items ≡ header_bytes l.digest ++ records_from Twelve 0 (take l.number l.entries)
