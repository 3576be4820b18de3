use Rattle.std.proofs.Common.{◌≡◌, vec_len}
use Rattle.dcr_report.proofs.pieces.new_pieces.Given as goal

abbrev pub invariant-loop : goal.invariant-loop
invariant-loop g l = vec_len l.pieces ≡ l.counter
