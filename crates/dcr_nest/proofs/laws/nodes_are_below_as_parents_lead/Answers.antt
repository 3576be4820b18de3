use Rattle.std.proofs.Common.{ℕ, ◌+◌, ◌||◌, false, not, eqb, length, refl, ap, sym, ◌∙◌, arith}
use Rattle.std.specs.Option.{option_map_or}
use Rattle.std.proofs.lemmas.Bool.{not-true, not_from_false}
use Rattle.dcr_nest.specs.Tree.{atoms, is_parent, is_at_or_below}
use Rattle.dcr_nest.proofs.TreeLemmas.{meets_at_top, meets_once}
use Rattle.dcr_nest.proofs.AtomLemmas.{picked, picked-passes, picked-ascends, picked-place}
use Rattle.dcr_nest.proofs.laws.nodes_are_below_as_parents_lead.Goals as goal

pub returns-clause-at_top : goal.returns-clause-at_top
returns-clause-at_top c = λ parents x y top. meets_at_top parents (λ z. eqb z y) (length parents) x top

pub returns-clause-in_parent : goal.returns-clause-in_parent
returns-clause-in_parent c = λ parents x p y earlier inside.
    meets_once parents (λ z. eqb z y) earlier (length parents) x refl
    ∙ ap (λ parent. eqb x y || option_map_or (λ p. is_at_or_below parents p y) parent false) inside

pub returns-clause-atoms : goal.returns-clause-atoms
unfolding atoms
returns-clause-atoms c = λ parents x.
    let p = λ (y : ℕ). not (is_parent parents y) in
    let n = length parents in (
      λ found.
          let h = picked-passes p n found.0 x found.1 in
          let same = found.2 in
          (let l = h.0 in omega arith, not-true (is_parent parents x) (ap p (sym same) ∙ h.1)),
      λ h. let place = picked-place p n x x h.0 (not_from_false (is_parent parents x) h.1) in (length (picked p x), place.0, place.1),
    )

pub returns-clause-ascending : goal.returns-clause-ascending
unfolding atoms
returns-clause-ascending c = λ parents k within. picked-ascends (λ y. not (is_parent parents y)) (length parents) k (k + 1) 0 (omega arith) within
