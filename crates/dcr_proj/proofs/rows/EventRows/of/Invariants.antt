use Rattle.std.proofs.Common.{◌≡◌, ℕ, ◌+◌, ◌*◌, ◌<◌, ◌≤◌, length}
use Rattle.dcr_set.specs.EventSet.{has}
use Rattle.dcr_graph.specs.GraphValue.{rules_of}
use Rattle.dcr_proj.specs.CoverValue.{atoms_of}
use Rattle.dcr_proj.specs.Rows.{guards_of, effects_within, HasRow}
use Rattle.dcr_proj.proofs.rows.EventRows.of.Given as goal

abbrev pub invariant-loop-number : goal.invariant-loop-number
invariant-loop-number l = record {
  room : atoms_of l.masks.sets.items.items ≡ length l.graph.names;
  more : length l.masks.sets.items.items ≤ length l.initial.masks.sets.items.items + 6 * l.number;
  few : length l.rows.items.items ≤ l.number + 1;
  len : length l.numbers.items ≡ l.number;
  rows : (e : ℕ) → e < l.number
      → HasRow (has l.own) (has l.alphabet) (guards_of (rules_of l.graph)) (effects_within (rules_of l.graph) l.tracked_in l.tracked_re) l.masks.sets.items.items l.rows.items.items l.numbers.items e;
}
