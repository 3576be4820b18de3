use Rattle.std.proofs.Common.{◌≡◌, ℕ, ◌+◌, false, true, not, length, get_or, ap, sym, ◌∙◌, arith}
use Rattle.std.proofs.lemmas.Bool.{not_from_true, not_from_false}
use Rattle.dcr_nest.proofs.AtomLemmas.{picked-no, length-picked_yes}
use Rattle.dcr_nest.proofs.tree.atoms_before.Goals as goal
use Rattle.dcr_nest.proofs.tree.atoms_before.Goals.{then-not-marks-from, else-not-marks-from}

pub loop-x-preserved : goal.loop-x-preserved
loop-x-preserved c =
    let p = λ (x : ℕ). not (get_or c.args.marks.now x false) in
    elim c.if-not-marks-from.branch [
      | then-not-marks-from w ↦ (
          let here : p c.loop-x.x ≡ true = ap p (sym c.from.ensures) ∙ not_from_false (get_or c.args.marks.now c.from.result false) w.if-not-marks-from.true in
          record {
            counted = w.count-is ∙ ap (λ k. k + 1) c.loop-x.invariant.counted ∙ sym (length-picked_yes p c.loop-x.x here);
            most = (let counted = w.count-is in omega arith);
          })
      | else-not-marks-from w ↦ (
          let here : p c.loop-x.x ≡ false = ap p (sym c.from.ensures) ∙ not_from_true (get_or c.args.marks.now c.from.result false) w.if-not-marks-from.false in
          record {
            counted = w.count-is ∙ c.loop-x.invariant.counted ∙ sym (ap (λ xs. length xs) (picked-no p c.loop-x.x here));
            most = (let counted = w.count-is in omega arith);
          })
    ]
