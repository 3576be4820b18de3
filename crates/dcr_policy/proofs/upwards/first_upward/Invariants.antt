use Rattle.std.proofs.Common.{◌≡◌, ◌+◌, ◌<◌, length, None}
use Rattle.std.specs.Prelude.{IfSome}
use Rattle.std.specs.List.{slice_get}
use Rattle.std.specs.Option.{option_map_or}
use Rattle.dcr_policy.specs.Upward.{upward}
use Rattle.dcr_policy.proofs.upwards.first_upward.Given as goal

-- the first upwards of the node is the first upwards of the next one
abbrev pub invariant-loop-next : goal.invariant-loop-next
invariant-loop-next l = record {
  node : IfSome l.next (λ x. x < length l.parents);
  first : slice_get (upward l.parents l.own l.fn.node) 0 ≡ option_map_or (λ x. slice_get (upward l.parents l.own x) 0) l.next None;
}

-- a parent stands earlier
abbrev pub decreases-loop-next : goal.decreases-loop-next
decreases-loop-next l = option_map_or (λ x. x + 1) l.next 0
