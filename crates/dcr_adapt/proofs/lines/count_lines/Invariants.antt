-- The lines that were counted and those that are left are all; each took a byte at least.
use Rattle.std.proofs.Common.{◌≡◌, ◌+◌, ◌≤◌, length}
use Rattle.dcr_adapt.specs.Stages.{line_texts}
use Rattle.dcr_adapt.proofs.lines.count_lines.Given as goal

abbrev pub decreases-loop-rest : goal.decreases-loop-rest
decreases-loop-rest l = length l.rest

abbrev pub invariant-loop-rest : goal.invariant-loop-rest
invariant-loop-rest l = record {
  counted : l.count + length (line_texts l.rest) ≡ length (line_texts l.bytes);
  few : l.count + length l.rest ≤ length l.bytes;
}
