use Rattle.std.proofs.Common.{◌+◌, ◌-◌, ◌*◌, ◌%◌, ◌^◌, ◌&&◌, ◌≡◌, ltb, get_or, sym, ap, ◌∙◌, arith}
use Rattle.std.specs.Prelude.{bit_and}
use Rattle.std.specs.Int.{bit_not, w64}
use Rattle.std.proofs.lemmas.Bool.{le-ltb}
use Rattle.std.proofs.lemmas.List.{get_or-set_same, get_or-set_other}
use Rattle.dcr_set.proofs.BitLemmas.{digit, digit-zero}
use Rattle.dcr_set.proofs.KeptLemmas.{digit-low, read_bits}
use Rattle.dcr_set.proofs.kept.read.Goals as goal

pub returns-then-rest-ne0-clause-bits : goal.returns-then-rest-ne0-clause-bits
returns-then-rest-ne0-clause-bits c =
    let w = c.from-whole.result in let r = c.from-rest.result in
    let n = get_or c.args.row.now (c.args.place + w) 0 in
    let word = bit_and n (bit_not w64 ((2 ^ 64 - 1) * 2 ^ r % 2 ^ 64)) in
    read_bits _ c.args.row.now c.args.place c.args.room w c.from-whole.ensures
    (λ j below. get_or-set_other c.loop-i.words w j word 0 (λ same. absurd (omega arith)) ∙ c.loop-i.invariant.done j (omega arith))
    (λ i within. ap (λ m. digit m i) (get_or-set_same c.loop-i.words w word 0 (omega (arith, c.loop-i.invariant.len))) ∙ digit-low n r i (omega arith) within ∙ ap (λ m. ltb i m && digit n i) c.from-rest.ensures)
    (λ j past. get_or-set_other c.loop-i.words w j word 0 (λ same. absurd (omega arith)) ∙ c.loop-i.invariant.rest j (omega arith))

pub returns-else-rest-ne0-clause-bits : goal.returns-else-rest-ne0-clause-bits
returns-else-rest-ne0-clause-bits c =
    let w = c.from-whole.result in
    let none : c.args.room % 64 ≡ 0 = omega arith in
    let n = get_or c.args.row.now (c.args.place + w) 0 in
    read_bits c.loop-i.words c.args.row.now c.args.place c.args.room w c.from-whole.ensures
    (λ j below. c.loop-i.invariant.done j (omega arith))
    (λ i within. ap (λ m. digit m i) (c.loop-i.invariant.rest w (omega arith)) ∙ digit-zero i ∙ sym (ap (λ t. t && digit n i) (le-ltb i (c.args.room % 64) (omega arith))))
    (λ j past. c.loop-i.invariant.rest j (omega arith))
