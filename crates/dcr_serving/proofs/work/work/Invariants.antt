use Rattle.std.proofs.Common.{◌≡◌, ◌-◌, ◌<◌, ◌≤◌, length, vec_capacity}
use Rattle.std.specs.List.{All}
use Rattle.dcr_serving.specs.Serving.{IsServedOf}
use Rattle.dcr_serving.proofs.work.work.Given as goal

abbrev pub invariant-loop-seat : goal.invariant-loop-seat
invariant-loop-seat g l = record {
  part : l.hand.share.parts ≡ 1;
  count : length l.hand.records.items ≡ l.hand.share.taken;
  room : g.M.DeskName.items ≤ vec_capacity l.hand.records;
  within : All (λ one. one.pass.session < g.M.DeskName.items) l.hand.records.items;
  each : All (λ one. IsServedOf g.B.Door.tells.each
      g.N.StoreName.first g.N.TurnName.capacity l.scene g.M.DeskName.links one.pass one.end) l.hand.records.items;
}

abbrev pub decreases-loop-seat : goal.decreases-loop-seat
decreases-loop-seat g l = g.M.DeskName.items - l.hand.share.taken
