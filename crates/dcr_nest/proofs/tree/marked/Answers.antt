use Rattle.std.proofs.Common.{◌≡◌, ℕ, ◌&&◌, Bool, false, ltb, length, get_or, ap, sym, ◌∙◌, arith}
use Rattle.dcr_set.specs.EventSet.{with_event}
use Rattle.dcr_set.proofs.SetLemmas.{length-those}
use Rattle.dcr_set.proofs.ToldLemmas.{filled_more, filled_same, filled_all}
use Rattle.dcr_nest.proofs.tree.marked.Goals as goal
use Rattle.dcr_nest.proofs.tree.marked.Goals.{then-marks-from, else-marks-from}

pub insert-requires : goal.insert-requires
insert-requires c =
    let room = ap (λ s. length s) c.loop-e.invariant ∙ length-those (length c.args.atoms.now) (λ k. get_or c.args.marks.now (get_or c.args.atoms.now k 0) false && ltb k c.loop-e.e) in
    omega arith

pub loop-e-preserved : goal.loop-e-preserved
loop-e-preserved c =
    let q : ℕ → Bool = λ k. get_or c.args.marks.now (get_or c.args.atoms.now k 0) false in
    let read : q c.loop-e.e ≡ get_or c.args.marks.now c.from-in-loop-e.result false =
    sym (ap (λ x. get_or c.args.marks.now x false) (c.from-in-loop-e.ensures ∙ ap (λ k. get_or c.args.atoms.now k 0) c.from.ensures)) in
    elim c.if-marks-from.branch [
      | then-marks-from w ↦
          w.set-is ∙ w.insert.ensures.added ∙ ap (λ s. with_event s c.loop-e.e) c.loop-e.invariant
          ∙ filled_more (length c.args.atoms.now) c.loop-e.e q (read ∙ w.if-marks-from.true)
      | else-marks-from w ↦ w.set-is ∙ c.loop-e.invariant ∙ filled_same (length c.args.atoms.now) c.loop-e.e q (read ∙ w.if-marks-from.false)
    ]

pub returns : goal.returns
returns c = c.loop-e.invariant ∙ filled_all (length c.args.atoms.now) c.loop-e.e (λ k. get_or c.args.marks.now (get_or c.args.atoms.now k 0) false) c.loop-e-test.false
