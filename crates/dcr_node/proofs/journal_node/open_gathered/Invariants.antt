use Rattle.std.proofs.Common.{◌≡◌}
use Rattle.dcr_node.specs.Gathering.{nothing_gathered}
use Rattle.dcr_node.proofs.journal_node.open_gathered.Given as goal

abbrev pub invariant-loop-number : goal.invariant-loop-number
invariant-loop-number l = l.gathered.items ≡ nothing_gathered l._number
