use Rattle.std.proofs.Common.{◌+◌, ◌*◌, ◌%◌, ◌^◌, sym, ap, subst, ◌∙◌, arith}
use Rattle.std.specs.Prelude.{bit_or}
use Rattle.dcr_wire.proofs.SetFormLemmas.{HasBits, bits_with, bits_without}
use Rattle.dcr_wire.proofs.set_bytes.byte_of.Goals.{then-contains, else-contains}
use Rattle.dcr_wire.proofs.set_bytes.byte_of.Goals as goal

pub loop-i-preserved : goal.loop-i-preserved
loop-i-preserved c =
    let events = c.args.events.now in
    let from = 8 * c.args.number in
    let i = c.loop-i.i in
    elim c.if-contains.branch [
      | then-contains w ↦
          subst (λ b. HasBits b from (i + 1) events) (sym (w.byte-is ∙ ap (λ r. bit_or c.loop-i.byte (1 * 2 ^ r % 2 ^ 8)) w.from.ensures))
          (bits_with c.loop-i.byte from i events (omega arith) c.loop-i.invariant (sym c.contains.ensures ∙ w.if-contains.true))
      | else-contains w ↦
          subst (λ b. HasBits b from (i + 1) events) (sym w.byte-is)
          (bits_without c.loop-i.byte from i events c.loop-i.invariant (sym c.contains.ensures ∙ w.if-contains.false))
    ]
