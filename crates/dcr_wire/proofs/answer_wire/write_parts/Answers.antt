use Rattle.std.proofs.Common.{◌≡◌, ℕ, length, inl, ap, subst, ◌∙◌, arith}
use Rattle.dcr_wire.specs.AnswerForm.{head_with, head_bytes, HaveHeadWidths}
use Rattle.dcr_wire.specs.declared.head.Head.{Head}
use Rattle.dcr_wire.proofs.SetFormLemmas.{set_kept, front_kept}
use Rattle.dcr_wire.proofs.answer_wire.write_parts.Goals as goal

pub returns : goal.returns
returns c =
    let first = c.args.first.now in
    let second = c.args.second.now in
    let third = c.args.third.now in
    let end = c.put_set-3.new.bytes in
    let made : ℕ → ℕ → ℕ → Head =
    λ a b d. record { kind = 5; site = c.args.site; number = c.args.number; told = c.args.told; event = c.args.event; first = a; second = b; third = d } in
    let same : made c.room.result c.room-2.result c.room-3.result ≡ head_with c.args.site c.args.number c.args.told c.args.event first second third =
    ap (λ a. made a c.room-2.result c.room-3.result) c.room.ensures.room
    ∙ ap (λ b. made (length first) b c.room-3.result) c.room-2.ensures.room
    ∙ ap (λ d. made (length first) (length second) d) c.room-3.ensures.room in
    record {
      fits = subst HaveHeadWidths same c.write_head-head.ensures.fits;
      head =
          front_kept c.put_head.new.bytes end c.put_head.ensures.len c.put_set-3.ensures.len
          (λ j below. c.put_set-3.ensures.others j (inl (omega arith)) ∙ c.put_set-2.ensures.others j (inl (omega arith)) ∙ c.put_set.ensures.others j (inl below))
          ∙ c.put_head.ensures.head
          ∙ c.write_head-head.ensures.bytes
          ∙ ap head_bytes same;
      len = c.put_set-3.ensures.len;
      first = set_kept c.put_set.new.bytes end 16 first c.put_set.ensures.events
          (λ j from below. c.put_set-3.ensures.others j (inl (omega arith)) ∙ c.put_set-2.ensures.others j (inl (omega arith)));
      second = set_kept c.put_set-2.new.bytes end 144 second c.put_set-2.ensures.events (λ j from below. c.put_set-3.ensures.others j (inl (omega arith)));
      third = c.put_set-3.ensures.events;
    }
