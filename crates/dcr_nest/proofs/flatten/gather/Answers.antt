use Rattle.std.proofs.Common.{◌≡◌, ◌+◌, List, length, get_or, set, ap, sym, subst, ◌∙◌, arith}
use Rattle.std.proofs.lemmas.List.{get_or_default}
use Rattle.dcr_graph.specs.Pairs.{Pair}
use Rattle.dcr_graph.specs.Rows.{row}
use Rattle.dcr_graph.specs.declared.kind.Kind.TheVariants.{Condition}
use Rattle.dcr_graph.proofs.TableLemmas.{row_read}
use Rattle.dcr_set.specs.EventSet.{Set, union}
use Rattle.dcr_nest.proofs.RowLemmas.{Gathered, gathered_more, gathered_other}
use Rattle.dcr_nest.proofs.flatten.gather.Goals as goal
use Rattle.dcr_nest.proofs.flatten.gather.Goals.{then-number-kind, else-number-kind, After-index-below-from}

pub add-requires-clause-room : goal.add-requires-clause-room
add-requires-clause-room c =
    let d : Pair = (Condition, 0, 0) in
    let pair = get_or c.args.relations.now c.loop-pair.pair-index d in
    let ends = c.requires.ends c.loop-pair.pair-index d c.loop-pair-test.true in
    let before = ends.0 in let after = ends.1 in
    let read : c.index-below-from.result ≡ row c.args.below.now c.from.result = row_read c.args.below.now c.from.result c.index-below-from.result (omega arith) c.index-below-from.is in
    c.loop-pair.invariant.rooms pair.1
    ∙ c.requires.rooms pair.1 pair.2 before after
    ∙ sym (ap (λ s. length s) (read ∙ ap (row c.args.below.now) c.from.ensures))

pub loop-pair-preserved : goal.loop-pair-preserved
loop-pair-preserved c =
    let d : Pair = (Condition, 0, 0) in
    let i = c.loop-pair.pair-index in
    let pair = get_or c.args.relations.now i d in
    let ends = c.requires.ends i d c.loop-pair-test.true in
    let before = ends.0 in let after = ends.1 in
    let below = c.args.below.now in
    let rows = c.loop-pair.rows.items in
    let P : List Set → Type 0 = λ now. Gathered below c.args.kind c.args.relations.now c.args.rows.now.items now (i + 1) in
    elim c.if-number-kind.branch [
      | then-number-kind w ↦ (
          let read : w.index-below-from.result ≡ row below pair.2 = row_read below w.from.result w.index-below-from.result (omega arith) w.index-below-from.is ∙ ap (row below) w.from.ensures in
          subst P (sym (ap (λ v. v.items) w.rows-is ∙ w.add.ensures ∙ ap (λ s. set rows pair.1 (union (row rows pair.1) s)) read))
          (gathered_more below c.args.kind c.args.relations.now c.args.rows.now.items rows i pair c.loop-pair.invariant c.loop-pair-test.true (get_or_default c.args.relations.now i d pair c.loop-pair-test.true)
          (sym c.number.ensures.number ∙ w.if-number-kind.true) (let many = c.loop-pair.invariant.many in omega arith)
          (c.loop-pair.invariant.rooms pair.1 ∙ c.requires.rooms pair.1 pair.2 before after)))
      | else-number-kind w ↦
          subst P (sym (ap (λ v. v.items) w.rows-is))
          (gathered_other below c.args.kind c.args.relations.now c.args.rows.now.items rows i pair c.loop-pair.invariant c.loop-pair-test.true (get_or_default c.args.relations.now i d pair c.loop-pair-test.true)
          (λ same. w.if-number-kind.false (c.number.ensures.number ∙ same)))
    ]
