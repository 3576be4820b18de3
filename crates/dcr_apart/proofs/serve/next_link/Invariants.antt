-- Nobody has come so far, and nothing was handed back.
use Rattle.std.proofs.Common.{◌≡◌}
use Rattle.dcr_apart.proofs.serve.next_link.Given as goal

abbrev pub invariant-loop : goal.invariant-loop
invariant-loop g l =
    (goal.iterator-loop g).can_next l.iterator' × (goal.iterator-loop g).is_finite l.iterator'
    × (g.P.Porter.tells.links l.porter ≡ g.P.Porter.tells.links l.initial.porter) × (g.P.Porter.tells.back l.porter ≡ g.P.Porter.tells.back l.initial.porter)
    × (g.P.Porter.tells.faults l.porter ≡ g.P.Porter.tells.faults l.initial.porter)
