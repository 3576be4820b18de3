use Rattle.std.proofs.Common.{◌&&◌, ◌||◌, eqb, get_or, length, refl, ap, ◌∙◌, arith}
use Rattle.std.proofs.lemmas.List.{length-replicate}
use Rattle.std.proofs.lemmas.Option.{none-some, same_Some}
use Rattle.dcr_set.specs.EventSet.{has, no_event, numbers}
use Rattle.dcr_set.proofs.SetLemmas.{length-those}
use Rattle.dcr_graph.specs.Rows.{leads}
use Rattle.dcr_part.specs.PartText.{sources, targets}
use Rattle.dcr_part.proofs.PairLemmas.{row_at, pairs_begun, pairs_grown, pairs_read}
use Rattle.dcr_part.proofs.tables.table_of.Goals as goal

pub loop-row-init : goal.loop-row-init
loop-row-init c = record {
  room = ap (λ rows. length rows) c.in_ok-table.ensures ∙ length-replicate c.args.atoms (no_event c.args.atoms);
  read = λ r same. pairs_begun c.args.atoms r c.in_ok-table.table c.in_ok-table.ensures;
}

pub returns-in_default-clause-read : goal.returns-in_default-clause-read
returns-in_default-clause-read c = λ r same.
    let n = c.args.atoms in let i = c.loop-row.row-index in
    let here = row_at n r c.args.rows.now i c.row-item.result same (omega arith) c.row-item.is in
    let a = get_or (numbers (sources n r)) i 0 in
    none-some (a, targets n r a) (c.in_default.ensures.read a (targets n r a) here.1 (length-those n (r a)) here.2)

pub loop-row-preserved : goal.loop-row-preserved
loop-row-preserved c =
    let n = c.args.atoms in let i = c.loop-row.row-index in
    record {
      room = c.add_targets.ensures.atoms ∙ c.loop-row.invariant.room;
      read = λ r same.
          let here = row_at n r c.args.rows.now i c.row-item.result same (omega arith) c.row-item.is in
          let a = get_or (numbers (sources n r)) i 0 in
          let row = same_Some _ _ (c.in-Some.ensures.read a (targets n r a) here.1 (length-those n (r a)) here.2) in
          pairs_grown n r i a c.loop-row.table c.add_targets.new.table here.0 refl (λ x y.
          c.add_targets.ensures.pairs x y ∙ ap (λ p. leads c.loop-row.table x y || (eqb p.0 x && has p.1 y)) row)
          (c.loop-row.invariant.read r same);
    }

pub returns-clause-read : goal.returns-clause-read
returns-clause-read c = λ r same. pairs_read c.args.atoms r c.args.rows.now c.loop-row.row-index c.loop-row.table same (omega arith) (c.loop-row.invariant.read r same)
