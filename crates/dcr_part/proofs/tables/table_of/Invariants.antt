-- The pairs so far are those of the first sources.
use Rattle.std.proofs.Common.{◌≡◌, ◌&&◌, ℕ, ◌<◌, Bool, length, map}
use Rattle.serde_json.specs.View.{view}
use Rattle.dcr_set.specs.EventSet.{numbers}
use Rattle.dcr_graph.specs.Rows.{leads}
use Rattle.dcr_part.specs.PartText.{row_value, sources}
use Rattle.dcr_part.proofs.FrontLemmas.{in_front}
use Rattle.dcr_part.proofs.tables.table_of.Given as goal

abbrev pub invariant-loop-row : goal.invariant-loop-row
invariant-loop-row l = record {
  room : length l.table ≡ l.atoms;
  read : (r : ℕ → ℕ → Bool) → map view l.rows ≡ map (row_value l.atoms r) (numbers (sources l.atoms r))
      → (x y : ℕ) → x < l.atoms → y < l.atoms → leads l.table x y ≡ (in_front (sources l.atoms r) l.row-index x && r x y);
}
