-- The lines before this one are these cases, and those from it on are left.
use Rattle.dcr_adapt.specs.Stages.{line_texts}
use Rattle.dcr_adapt.proofs.ReadLemmas.{HasRead}
use Rattle.dcr_adapt.proofs.read.read_each.Given as goal

abbrev pub invariant-loop-i : goal.invariant-loop-i
invariant-loop-i l = HasRead (line_texts l.bytes) l.i l.cases.items (line_texts l.rest)
