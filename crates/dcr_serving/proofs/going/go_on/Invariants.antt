use Rattle.std.proofs.Common.{◌≡◌, ◌+◌, ◌≤◌, ℕ, List, Option, length, map, reverse, vec_len, vec_capacity}
use Rattle.dcr_turn.specs.PassValue.{PassValue}
use Rattle.dcr_serve.specs.Left.{numbers_from}
use Rattle.dcr_serving.proofs.ServingLemmas.{Way}
use Rattle.dcr_serving.proofs.going.go_on.Given as goal

abbrev pub invariant-loop-seat : goal.invariant-loop-seat
invariant-loop-seat g l = record {
  numbers : map (λ (seat : PassValue). seat.session) (reverse l.left.items) ≡ numbers_from (length l.passes.items) (length l.initial.passes.items + length l.initial.left.items);
  total : length l.passes.items + length l.left.items ≡ length l.initial.passes.items + length l.initial.left.items;
  no_more : length l.ends.items ≤ length l.passes.items;
  passes_room : vec_capacity l.passes ≡ vec_capacity l.initial.passes;
  ends_room : vec_capacity l.ends ≡ vec_capacity l.initial.ends;
  goes : (links : Option (List g.row.B-Link.Denot)) (faults : ℕ) → Way g.B.Door.tells.each
      g.N.StoreName.first g.N.TurnName.capacity l.initial.scene g.B.Door.tells links faults l.initial.passes.items l.initial.ends.items l.initial.now l.initial.door
      → Way g.B.Door.tells.each
      g.N.StoreName.first g.N.TurnName.capacity l.initial.scene g.B.Door.tells links faults l.passes.items l.ends.items l.now l.door;
}

abbrev pub decreases-loop-seat : goal.decreases-loop-seat
decreases-loop-seat g l = vec_len l.left
