use Rattle.std.proofs.Common.{◌≡◌, ◌-◌, length, reverse, take}
use Rattle.dcr_lock.specs.Placing.{StandInPlace}
use Rattle.dcr_cell.specs.CellStands.{CellStands}
use Rattle.dcr_cluster.proofs.prepare.cells_of.Given as goal

-- the cells so far stand, and the sites and fronts behind them are left, the last one first
abbrev pub invariant-loop : goal.invariant-loop
invariant-loop g l = record {
  stand : StandInPlace (λ place cell. CellStands g.N.ClusterName.cluster place cell.site.value cell.front) l.cells.items;
  sites : l.sites.items ≡ take (length l.fn.sites.items - l.counter) (reverse l.fn.sites.items);
  fronts : l.fronts.items ≡ take (length l.fn.sites.items - l.counter) (reverse l.fn.fronts.items);
  so_far : length l.cells.items ≡ l.counter;
}
