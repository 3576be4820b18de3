use Rattle.std.proofs.Common.{◌+◌, ◌≤◌, ℕ, length, ap, subst, sym, ◌∙◌}
use Rattle.std.specs.List.{All}
use Rattle.std.proofs.lemmas.List.{length_push}
use Rattle.std.proofs.lemmas.List.Elements.{All-push}
use Rattle.dcr_serving.specs.Placing.{HasRoom}
use Rattle.dcr_serving.proofs.room.records.Goals as goal

pub loop-preserved : goal.loop-preserved
loop-preserved g c = record {
  many = ap (λ l. length l) c.push_reserved.ensures.items ∙ length_push c.loop.all.items _ ∙ ap (λ (n : ℕ). n + 1) c.loop.invariant.many;
  count = c.push_reserved.ensures.len ∙ ap (λ (n : ℕ). n + 1) c.loop.invariant.count;
  room = subst (λ (n : ℕ). c.args.workers ≤ n) (sym c.push_reserved.ensures.capacity) c.loop.invariant.room;
  empty =
      subst (All (HasRoom c.args.sessions)) (sym c.push_reserved.ensures.items)
      (All-push (HasRoom c.args.sessions) c.loop.all.items c.in_ok-with_capacity.field-0 c.loop.invariant.empty (c.in_ok-with_capacity.ensures.items, c.in_ok-with_capacity.ensures.capacity));
}
