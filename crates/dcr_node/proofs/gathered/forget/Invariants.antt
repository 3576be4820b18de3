use Rattle.std.proofs.Common.{◌≡◌, ℕ, ◌<◌, length, get_or}
use Rattle.dcr_node.specs.Gathering.{nothing_told}
use Rattle.dcr_node.proofs.gathered.forget.Given as goal

abbrev pub invariant-loop-place : goal.invariant-loop-place
invariant-loop-place l = record {
  len : length l.gathered.items ≡ length l.fn.gathered.items;
  done : (k : ℕ) → k < l.place → get_or l.gathered.items k nothing_told ≡ nothing_told;
}
