use Rattle.std.proofs.Common.{◌≡◌, length}
use Rattle.bench_cluster.proofs.making.make.Given as goal

abbrev pub invariant-loop-seq : goal.invariant-loop-seq
invariant-loop-seq l = (length l.sites.sites ≡ length l.fn.sites.sites) × (l.sites.atoms ≡ l.fn.sites.atoms)
