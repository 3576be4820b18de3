use Rattle.std.proofs.Common.{refl}
use Rattle.dcr_link_rows.specs.declared.build.Item.{Item}
use Rattle.dcr_link_rows.proofs.Numbers.{next_item}
use Rattle.dcr_link_rows.proofs.build.items.Goals as goal

pub loop-number-preserved : goal.loop-number-preserved
loop-number-preserved c = next_item (λ (item : Item). item.0) _ _ (record { 0 = c.loop-number.number }) _ c.loop-number.invariant c.in_ok-push.ensures.items refl
