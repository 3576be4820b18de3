use Rattle.std.proofs.Common.{Some, get_or, sym, ap, ◌∙◌, arith}
use Rattle.std.proofs.lemmas.Option.{none-some, same_Some}
use Rattle.dcr_set.specs.EventSet.{numbers}
use Rattle.dcr_part.proofs.FrontLemmas.{number_at, set_begun, set_grown, set_read}
use Rattle.dcr_part.proofs.numbers.set_of.Goals as goal

pub loop-item-init : goal.loop-item-init
loop-item-init c = record {
  room = c.new-set.ensures.room;
  read = λ s room same k. set_begun c.args.room c.new-set.result s c.new-set.ensures.empty k;
}

pub returns-in_err-number-clause-read : goal.returns-in_err-number-clause-read
returns-in_err-number-clause-read c = λ s room same.
    let here = number_at c.args.items.now s c.loop-item.item-index c.item-item.result same (omega arith) c.item-item.is in
    absurd (none-some (get_or (numbers s) c.loop-item.item-index 0) (c.in_err-number.ensures.read (get_or (numbers s) c.loop-item.item-index 0) (omega (arith, here.1, room)) here.2))

pub loop-item-preserved : goal.loop-item-preserved
loop-item-preserved c = record {
  room = c.insert.ensures.room ∙ c.loop-item.invariant.room;
  read = λ s room same k.
      let here = number_at c.args.items.now s c.loop-item.item-index c.item-item.result same (omega arith) c.item-item.is in
      let is = same_Some _ _ (c.in_ok-number.ensures.read (get_or (numbers s) c.loop-item.item-index 0) (omega (arith, here.1, room)) here.2) in
      set_grown c.loop-item.set c.insert.new.self s c.loop-item.item-index c.in_ok-number.number here.0 is (omega (arith, c.in_ok-number.ensures.below, c.loop-item.invariant.room)) c.insert.ensures.added
      (c.loop-item.invariant.read s room same) k;
}

pub returns-clause-read : goal.returns-clause-read
returns-clause-read c = λ s room same.
    ap Some (set_read c.args.items.now c.loop-item.set s c.loop-item.item-index same (omega arith) (c.loop-item.invariant.room ∙ sym room) (c.loop-item.invariant.read s room same))
