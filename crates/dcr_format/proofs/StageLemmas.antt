-- Three lists of facts, one after another.
use Rattle.std.proofs.Common.{◌≡◌, List, ◌++◌, Some, None, ◌∙◌}
use Rattle.dcr_format.specs.Facts.{Fact, first}
use Rattle.dcr_format.specs.declared.stop.CaseStop.{CaseStop}
use Rattle.dcr_format.proofs.FactLemmas.{append_here, append_none, append_past}

module _ (a b c : List Fact) where
  pub first_stop : (stop : CaseStop) → first a ≡ Some stop → first (a ++ (b ++ c)) ≡ Some stop
  first_stop stop e = append_here a (b ++ c) stop e

  pub second_stop : first a ≡ None → (stop : CaseStop) → first b ≡ Some stop → first (a ++ (b ++ c)) ≡ Some stop
  second_stop past stop e = append_past a (b ++ c) past ∙ append_here b c stop e

  pub third_fact : first a ≡ None → first b ≡ None → (fact : Fact) → first c ≡ fact → first (a ++ (b ++ c)) ≡ fact
  third_fact past next fact e = append_past a (b ++ c) past ∙ append_past b c next ∙ e

  pub all_three : first (a ++ (b ++ c)) ≡ None → (first a ≡ None) × (first b ≡ None) × (first c ≡ None)
  all_three e = let one = append_none a (b ++ c) e in let two = append_none b c one.1 in (one.0, two.0, two.1)
