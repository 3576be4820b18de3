-- The pairs of one kind: for each atom the set of its targets, which is what contracts see, and the set of its sources.
use Rattle.std.specs.Prelude.{◌≡◌, ℕ, ◌<◌, ◌≤◌, List, length}
use Rattle.dcr_set.specs.EventSet.{Set}
use Rattle.dcr_graph.specs.Rows.{row, leads}
use Rattle.dcr_graph.specs.declared.table.Table.TheInside.{Inside}

abbrev pub table_of : Inside → List Set
table_of t = t.targets.items

-- each row has a place for each atom, and the sources are the targets turned round
pub record IsTable (t : Inside) : Type 0 where
  pub most : length t.targets.items ≤ 1024
  pub as_many : length t.sources.items ≡ length t.targets.items
  pub rooms : (a : ℕ) → a < length t.targets.items → length (row t.targets.items a) ≡ length t.targets.items
  pub rooms_back : (b : ℕ) → b < length t.targets.items → length (row t.sources.items b) ≡ length t.targets.items
  pub turned : (a b : ℕ) → leads t.sources.items b a ≡ leads t.targets.items a b
