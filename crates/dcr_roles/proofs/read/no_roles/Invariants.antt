use Rattle.std.proofs.Common.{◌≡◌, [], replicate}
use Rattle.dcr_roles.proofs.read.no_roles.Given as goal

abbrev pub invariant-loop : goal.invariant-loop
invariant-loop l = l.own.items ≡ replicate l.counter []
