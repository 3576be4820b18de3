use Rattle.std.proofs.Common.{◌≡◌, ℕ, ◌<◌, List, true, false, Some, None, get_or}
use Rattle.dcr_graph.specs.Names.{is_name}
use Rattle.dcr_part.specs.Told.{are_one}
use Rattle.dcr_part.proofs.names.are_distinct.Given as goal

abbrev pub invariant-loop-i : goal.invariant-loop-i
invariant-loop-i l = record {
  distinct : (e : ℕ) → e < l.i → (d : ℕ) → d < e → are_one (get_or l.names d None) (get_or l.names e None) ≡ false;
  are_names : (e : ℕ) → e < l.i → (name : List ℕ) → get_or l.names e None ≡ Some name → is_name name ≡ true;
}
