-- No atom before this one is dropped.
use Rattle.std.proofs.Common.{◌≡◌, ◌<◌, ℕ, false}
use Rattle.std.specs.Option.{is_none}
use Rattle.dcr_graph.specs.Names.{number_of}
use Rattle.dcr_line.specs.Line.{name_of as name_at}
use Rattle.dcr_adapt.proofs.dropping.first_dropped.Given as goal

abbrev pub invariant-loop-number : goal.invariant-loop-number
invariant-loop-number l = (k : ℕ) → k < l.number → is_none (number_of l.next.names (name_at l.graph.names k)) ≡ false
