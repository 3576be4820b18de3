-- So many of the executions from before have entries.
use Rattle.std.proofs.Common.{◌≡◌}
use Rattle.dcr_order.proofs.BeginLemmas.{journal_with, old_front}
use Rattle.dcr_order.proofs.opening.enter_all.Given as goal

abbrev pub invariant-loop-x : goal.invariant-loop-x
invariant-loop-x l = l.node ≡ journal_with l.initial.node.alphabets l.session (old_front l.session l.old l.x-index)
