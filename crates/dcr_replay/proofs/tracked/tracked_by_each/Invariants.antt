use Rattle.std.proofs.Common.{◌≡◌, map, take}
use Rattle.dcr_graph.specs.GraphValue.{rules_of}
use Rattle.dcr_replay.specs.Tracks.{tracked_of}
use Rattle.dcr_replay.proofs.tracked.tracked_by_each.Given as goal

abbrev pub invariant-loop-owned : goal.invariant-loop-owned
invariant-loop-owned l = l.each.items ≡ map (tracked_of (rules_of l.graph)) (take l.owned-index l.sets)
