use Rattle.std.proofs.Common.{◌≡◌, ℕ, ◌<◌, false, [], get_or}
use Rattle.std.specs.Str.{bytes_eq}
use Rattle.dcr_nest.specs.Nest.{names_of}
use Rattle.dcr_nest.proofs.nested.Nested.find.Given as goal

abbrev pub invariant-loop-number : goal.invariant-loop-number
invariant-loop-number l = (k : ℕ) → k < l.number → bytes_eq (get_or (names_of l.self-inside.nodes.items) k []) l.name ≡ false
