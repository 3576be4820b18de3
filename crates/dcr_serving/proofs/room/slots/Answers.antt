use Rattle.std.proofs.Common.{◌+◌, ℕ, length, ap, ◌∙◌, arith}
use Rattle.std.proofs.lemmas.List.{length_push}
use Rattle.dcr_serving.specs.Placing.{filled}
use Rattle.dcr_serving.proofs.PlacingLemmas.{filled_none}
use Rattle.dcr_serving.proofs.room.slots.Goals as goal

pub loop-preserved : goal.loop-preserved
loop-preserved g c = record {
  many = ap (λ l. length l) c.push_reserved.ensures.items ∙ length_push c.loop.slots.items _ ∙ ap (λ (n : ℕ). n + 1) c.loop.invariant.many;
  count = c.push_reserved.ensures.len ∙ ap (λ (n : ℕ). n + 1) c.loop.invariant.count;
  room = (let room = c.loop.invariant.room in let same = c.push_reserved.ensures.capacity in omega (arith, room, same));
  empty = ap filled c.push_reserved.ensures.items ∙ filled_none c.loop.slots.items ∙ c.loop.invariant.empty;
}
