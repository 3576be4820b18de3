use Rattle.std.proofs.Common.{◌+◌, length, sym, ap, subst, ◌∙◌, arith}
use Rattle.dcr_set.specs.EventSet.{Set}
use Rattle.dcr_wire.proofs.SetFormLemmas.{HasRead, read_none, read_with, read_without}
use Rattle.dcr_wire.proofs.set_bytes.read_set.Goals.{then-has_bit+else-number-room, else-has_bit}
use Rattle.dcr_wire.proofs.set_bytes.read_set.Goals as goal

pub loop-number-init : goal.loop-number-init
loop-number-init c = record {
  room = c.new-events.ensures.room;
  read = read_none c.args.bytes.now c.args.place c.args.room c.new-events.result c.new-events.ensures.empty;
}

pub loop-number-preserved : goal.loop-number-preserved
loop-number-preserved c =
    let bytes = c.args.bytes.now in
    let place = c.args.place in
    let number = c.loop-number.number in
    let events = c.loop-number.events in
    let room = c.loop-number.invariant.room in
    elim c.if-has_bit.branch [
      | then-has_bit+else-number-room w ↦ record {
        room = ap (λ (s : Set). length s) w.events-is ∙ w.insert.ensures.room ∙ room;
        read = subst (HasRead bytes place (number + 1)) (sym (w.events-is ∙ w.insert.ensures.added))
            (read_with bytes place number events c.loop-number.invariant.read (sym c.has_bit.ensures ∙ w.if-has_bit.true) (omega arith));
      }
      | else-has_bit w ↦ record {
        room = ap (λ (s : Set). length s) w.events-is ∙ room;
        read = subst (HasRead bytes place (number + 1)) (sym w.events-is)
            (read_without bytes place number events c.loop-number.invariant.read (sym c.has_bit.ensures ∙ w.if-has_bit.false));
      }
    ]
