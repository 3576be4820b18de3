use Rattle.std.proofs.Common.{◌≡◌, length}
use Rattle.bench_cluster.proofs.making.listed.Given as goal

abbrev pub invariant-loop-number : goal.invariant-loop-number
invariant-loop-number g l = (length l.sites.sites ≡ length l.initial.sites.sites) × (l.sites.atoms ≡ l.initial.sites.atoms)
