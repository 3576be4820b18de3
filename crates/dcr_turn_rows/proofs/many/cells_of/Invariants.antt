use Rattle.std.proofs.Common.{◌≡◌}
use Rattle.dcr_lock.specs.Placing.{StandInPlace}
use Rattle.dcr_turn_rows.proofs.many.cells_of.Given as goal

abbrev pub invariant-loop-front : goal.invariant-loop-front
invariant-loop-front g l = StandInPlace (λ place cell. cell.front.site ≡ place) l.cells.items
