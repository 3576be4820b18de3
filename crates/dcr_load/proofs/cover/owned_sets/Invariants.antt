use Rattle.std.proofs.Common.{◌≡◌}
use Rattle.dcr_load.specs.Each.{each_below}
use Rattle.dcr_load.specs.LoadCover.{owned_by}
use Rattle.dcr_load.proofs.cover.owned_sets.Given as goal

abbrev pub invariant-loop-site : goal.invariant-loop-site
invariant-loop-site l = l.sets.items ≡ each_below l.site (owned_by l.number)
