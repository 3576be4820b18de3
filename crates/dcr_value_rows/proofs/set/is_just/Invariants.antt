use Rattle.dcr_value_rows.proofs.set.is_just.Given as goal

abbrev pub invariant-loop-number : goal.invariant-loop-number
invariant-loop-number l =
    (goal.iterator-loop-number).can_next l.events × (goal.iterator-loop-number).is_finite l.events
