use Rattle.std.proofs.Common.{◌≡◌, ◌+◌, ◌<◌, List, set, Some, ap, sym, subst, ◌∙◌, arith}
use Rattle.dcr_graph.specs.Rows.{row}
use Rattle.dcr_graph.proofs.TableLemmas.{row_read}
use Rattle.dcr_set.specs.EventSet.{Set, union}
use Rattle.dcr_nest.specs.Tree.{parent_of}
use Rattle.dcr_nest.proofs.RowLemmas.{HandedDown, handed_at_top, handed_more}
use Rattle.dcr_nest.proofs.flatten.hand_down.Goals as goal
use Rattle.dcr_nest.proofs.flatten.hand_down.Goals.{in-Some, in_default}

pub loop-x-preserved : goal.loop-x-preserved
loop-x-preserved c =
    let parents = c.args.parents.now in
    let old = c.args.rows.now.items in
    let rows = c.loop-x.rows.items in
    let x = c.loop-x.x in
    let P : List Set → Type 0 = λ now. HandedDown parents old now (x + 1) in
    elim c.match-parents-from.branch [
      | in-Some w ↦ (
          let p = w.from-in-Some.result in
          let inside : parent_of parents x ≡ Some p = ap (parent_of parents) (sym c.from.ensures) ∙ w.in-Some.is ∙ ap Some (sym w.from-in-Some.ensures) in
          let before : p < x = c.requires.earlier x p inside in
          let many = c.loop-x.invariant.many in
          let read : w.copy-above.result ≡ row rows p = w.copy-above.ensures ∙ row_read rows p w.index.result.now (let l = c.requires.many in omega arith) w.index.ensures in
          subst P (sym (ap (λ v. v.items) w.rows-is ∙ w.add.ensures ∙ ap (λ s. set rows x (union (row rows x) s)) read))
          (handed_more parents old rows x p c.requires.earlier c.loop-x.invariant inside (let l = c.requires.many in omega arith)
          (c.loop-x.invariant.rooms x ∙ c.requires.rooms x p c.loop-x-test.true (omega arith) ∙ sym (c.loop-x.invariant.rooms p))))
      | in_default w ↦
          subst P (sym (ap (λ v. v.items) w.rows-is)) (handed_at_top parents old rows x c.loop-x.invariant (ap (parent_of parents) (sym c.from.ensures) ∙ w.in_default.is))
    ]
