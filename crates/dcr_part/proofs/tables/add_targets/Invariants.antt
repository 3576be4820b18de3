-- The pairs so far and those to come are all the pairs.
use Rattle.std.proofs.Common.{◌≡◌, ◌&&◌, ◌||◌, ℕ, ◌<◌, eqb, length}
use Rattle.std.specs.List.{All, list_any}
use Rattle.dcr_set.specs.EventSet.{has}
use Rattle.dcr_graph.specs.Rows.{leads}
use Rattle.dcr_part.proofs.tables.add_targets.Given as goal

abbrev pub invariant-loop-b : goal.invariant-loop-b
invariant-loop-b l = record {
  room : length l.table ≡ length l.fn.table;
  ahead : All (λ b. b < length l.targets) l.b-iterator;
  pairs : (x y : ℕ) → (leads l.table x y || (eqb l.a x && list_any (λ b. eqb b y) l.b-iterator)) ≡ (leads l.fn.table x y || (eqb l.a x && has l.targets y));
}
