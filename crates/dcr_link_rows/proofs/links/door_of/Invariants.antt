use Rattle.std.specs.List.{All}
use Rattle.dcr_fakes.specs.LinkState.{IsFresh}
use Rattle.dcr_link_rows.proofs.links.door_of.Given as goal

abbrev pub invariant-loop-asking : goal.invariant-loop-asking
invariant-loop-asking l = All IsFresh l.links.items
