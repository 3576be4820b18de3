use Rattle.std.proofs.Common.{◌≡◌}
use Rattle.dcr_node.specs.Streams.{new_streams}
use Rattle.dcr_node.proofs.journal_node.open_streams.Given as goal

abbrev pub invariant-loop-number : goal.invariant-loop-number
invariant-loop-number l = l.streams.items ≡ new_streams l._number l.room
