-- So many links were served, and the porter has not failed.
use Rattle.std.proofs.Common.{◌≡◌}
use Rattle.dcr_part.specs.Whole.{Whole, IsWhole, part_text}
use Rattle.dcr_apart.proofs.ServedLemmas.{HasServed}
use Rattle.dcr_apart.proofs.serve.serve.Given as goal

abbrev pub invariant-loop-number : goal.invariant-loop-number
invariant-loop-number g l = record {
  served : (W : Whole) → IsWhole W → l.bytes ≡ part_text W → HasServed g.P.Porter.tells W l.key l.initial.porter l.porter l.number;
  faults : g.P.Porter.tells.faults l.porter ≡ g.P.Porter.tells.faults l.initial.porter;
}
