use Rattle.std.proofs.Common.{◌<◌, ◌^◌}
use Rattle.dcr_text.proofs.NumberLemmas.{Reads}
use Rattle.dcr_text.proofs.number.read_digits.Given as goal

abbrev pub invariant-loop-byte : goal.invariant-loop-byte
invariant-loop-byte l = record {
  reads : Reads l.bytes l.byte-index l.number;
  small : l.number < 2 ^ 64;
}
