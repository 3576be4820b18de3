use Rattle.std.proofs.Common.{◌≡◌, take}
use Rattle.dcr_node.proofs.journal_node.copy_network.Given as goal

abbrev pub invariant-loop-number : goal.invariant-loop-number
invariant-loop-number l = l.alphabets.items ≡ take l.number l.network
