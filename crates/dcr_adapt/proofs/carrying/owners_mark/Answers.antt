use Rattle.std.proofs.Common.{◌<◌, length, sym, ap, ◌∙◌, arith}
use Rattle.std.specs.List.{slice_get}
use Rattle.std.specs.Option.{option_and_then}
use Rattle.dcr_set.specs.EventSet.{has}
use Rattle.dcr_set.proofs.LeastLemmas.{least-from, least-none_from}
use Rattle.dcr_graph.specs.Rows.{row}
use Rattle.dcr_graph.proofs.TableLemmas.{row_read}
use Rattle.dcr_adapt.proofs.carrying.owners_mark.Goals as goal

pub returns-then-contains : goal.returns-then-contains
returns-then-contains c =
    let C = c.args.owned.now in
    let marks = c.args.marks.now in
    let i = c.loop-i.i in
    let within : i < length C = omega arith in
    c.get.ensures
    ∙ sym (ap (option_and_then (slice_get marks)) (least-from (length C) (λ k. has (row C k) c.args.a) i (record {
      below = within;
      passes = ap (λ set. has set c.args.a) (sym (row_read C i c.index-owned-i.result within c.index-owned-i.is)) ∙ sym c.contains.ensures ∙ c.if-contains.true;
      none_before = c.loop-i.invariant;
    })))

pub returns : goal.returns
returns c =
    let C = c.args.owned.now in
    let marks = c.args.marks.now in
    sym (ap (option_and_then (slice_get marks)) (least-none_from (length C) (λ i. has (row C i) c.args.a) (λ k below. c.loop-i.invariant k (omega arith))))
