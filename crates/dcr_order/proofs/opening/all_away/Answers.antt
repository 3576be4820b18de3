use Rattle.std.proofs.Common.{◌++◌, ◌∷◌, [], ap, ◌∙◌, arith}
use Rattle.std.proofs.lemmas.List.{replicate_more}
use Rattle.dcr_order.specs.declared.place.Place.TheVariants.{Away}
use Rattle.dcr_order.proofs.opening.all_away.Goals as goal

pub loop-number-preserved : goal.loop-number-preserved
loop-number-preserved g c = record {
  items = c.push_reserved.ensures.items ∙ ap (λ p. p ++ Away ∷ []) c.loop-number.invariant.items ∙ replicate_more c.loop-number._number Away;
  count = omega (arith, c.push_reserved.ensures.len, c.loop-number.invariant.count);
  room = omega (arith, c.push_reserved.ensures.capacity, c.loop-number.invariant.room);
}
