use Rattle.std.proofs.Common.{◌≡◌, ℕ, ◌++◌, ◌∷◌, [], false, true, not, get_or, ap, sym, ◌∙◌}
use Rattle.std.proofs.lemmas.Bool.{not_from_true, not_from_false}
use Rattle.dcr_nest.proofs.AtomLemmas.{picked-yes, picked-no}
use Rattle.dcr_nest.proofs.tree.unmarked.Goals as goal
use Rattle.dcr_nest.proofs.tree.unmarked.Goals.{then-not-marks-from+in_ok-push, else-not-marks-from}

pub loop-x-preserved : goal.loop-x-preserved
loop-x-preserved c =
    let p = λ (x : ℕ). not (get_or c.args.marks.now x false) in
    elim c.if-not-marks-from.branch [
      | then-not-marks-from+in_ok-push w ↦ (
          let here : p c.loop-x.x ≡ true = ap p (sym c.from.ensures) ∙ not_from_false (get_or c.args.marks.now c.from.result false) w.if-not-marks-from.true in
          ap (λ v. v.items) w.nodes-is ∙ w.in_ok-push.ensures.items ∙ ap (λ xs. xs ++ c.loop-x.x ∷ []) c.loop-x.invariant ∙ sym (picked-yes p c.loop-x.x here))
      | else-not-marks-from w ↦ (
          let here : p c.loop-x.x ≡ false = ap p (sym c.from.ensures) ∙ not_from_true (get_or c.args.marks.now c.from.result false) w.if-not-marks-from.false in
          ap (λ v. v.items) w.nodes-is ∙ c.loop-x.invariant ∙ sym (picked-no p c.loop-x.x here))
    ]
