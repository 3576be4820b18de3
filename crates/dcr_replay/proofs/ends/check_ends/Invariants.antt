-- The lines were those of the sites before this one, and then those that are left.
use Rattle.std.proofs.Common.{◌≡◌, ◌++◌, take}
use Rattle.dcr_replay.specs.ReportLines.{ended}
use Rattle.dcr_replay.specs.Stands.{ends_of}
use Rattle.dcr_replay.proofs.ends.check_ends.Given as goal

abbrev pub invariant-loop-i : goal.invariant-loop-i
invariant-loop-i l = l.fn.lines ≡ ended (take l.i (ends_of l.run)) ++ l.lines
