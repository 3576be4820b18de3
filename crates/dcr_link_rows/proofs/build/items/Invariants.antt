use Rattle.std.proofs.Common.{◌≡◌}
use Rattle.std.specs.Prelude.{map}
use Rattle.dcr_serve.specs.Left.{numbers_from}
use Rattle.dcr_link_rows.specs.declared.build.Item.{Item}
use Rattle.dcr_link_rows.proofs.build.items.Given as goal

abbrev pub invariant-loop-number : goal.invariant-loop-number
invariant-loop-number l = map (λ (item : Item). item.0) l.items.items ≡ numbers_from 0 l.number
