use Rattle.std.proofs.Common.{◌≡◌}
use Rattle.dcr_load.specs.Each.{each_below}
use Rattle.dcr_load.specs.LoadCover.{site_name}
use Rattle.dcr_load.proofs.cover.names.Given as goal

abbrev pub invariant-loop-i : goal.invariant-loop-i
invariant-loop-i l = l.names.items ≡ each_below l.i site_name
