-- The tables so far are those of the first kinds.
use Rattle.std.proofs.Common.{◌≡◌, length, vec_len}
use Rattle.std.specs.List.{All}
use Rattle.serde_json.specs.View.{view}
use Rattle.dcr_graph.specs.Rules.{Rules}
use Rattle.dcr_part.specs.PartText.{relations_value}
use Rattle.dcr_part.proofs.PairLemmas.{AreBefore}
use Rattle.dcr_part.proofs.tables.tables_of.Given as goal

abbrev pub invariant-loop-number : goal.invariant-loop-number
invariant-loop-number l = record {
  many : vec_len l.tables ≡ l.number;
  rows : All (λ table. length table ≡ l.atoms) l.tables.items;
  read : (R : Rules) → R.atoms ≡ l.atoms → view l.value ≡ relations_value R → AreBefore R l.number l.tables.items;
}
