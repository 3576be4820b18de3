use Rattle.std.proofs.Common.{◌≡◌, None, replicate}
use Rattle.dcr_part.proofs.alphabet.no_names.Given as goal

abbrev pub invariant-loop : goal.invariant-loop
invariant-loop l = l.names.items ≡ replicate l.counter None
