use Rattle.std.specs.List.{range_with_len}
use Rattle.dcr_policy.specs.Sets.{AreAsking}
use Rattle.dcr_policy.proofs.sets.asking.Given as goal

abbrev pub invariant-loop-x : goal.invariant-loop-x
invariant-loop-x l = AreAsking l.own l.below (range_with_len 0 l.x) l.count l.room l.sets.items
