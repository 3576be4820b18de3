use Rattle.std.proofs.Common.{[], ◌∷◌, ◌++◌, Some, map, sym, ap, ◌∙◌, arith}
use Rattle.std.proofs.lemmas.List.{take_all}
use Rattle.std.proofs.lemmas.Option.{none-some}
use Rattle.dcr_graph.specs.declared.marking.SiteMark.{SiteMark}
use Rattle.dcr_node.specs.declared.gathered.Gathered.{Gathered}
use Rattle.dcr_order.proofs.EndLemmas.{marks_more}
use Rattle.dcr_order.proofs.closing.marks_told.Goals as goal

pub unreachable-requires : goal.unreachable-requires
unreachable-requires c =
    let told = c.requires.told c.loop-number.number c.gathered.result.now c.loop-number-test.true c.gathered.ensures in
    none-some told.marks.0 (sym c.in_default.is ∙ told.marks.1)

pub loop-number-preserved : goal.loop-number-preserved
loop-number-preserved c = record {
  told =
      ap (map Some) (c.push_reserved.ensures.items ∙ ap (λ (m : SiteMark). c.loop-number.marks.items ++ m ∷ []) c.copy.ensures)
      ∙ marks_more c.loop-number.marks.items c.args.node.now.gathered c.loop-number.number c.gathered.result.now c.in-Some.mark c.loop-number.invariant.told c.gathered.ensures c.in-Some.is;
  count = omega (arith, c.push_reserved.ensures.len, c.loop-number.invariant.count);
  room = omega (arith, c.push_reserved.ensures.capacity, c.loop-number.invariant.room);
}

pub returns : goal.returns
returns c =
    let gathered = c.requires.gathered in
    let test = c.loop-number-test.false in
    ap (map Some) c.new.ensures ∙ c.loop-number.invariant.told ∙ ap (map (λ (one : Gathered). one.marks)) (take_all c.loop-number.number c.args.node.now.gathered (omega arith))
