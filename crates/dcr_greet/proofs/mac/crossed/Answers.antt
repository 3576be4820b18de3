use Rattle.std.proofs.Common.{◌≡◌, ◌++◌, ◌∷◌, [], ℕ, List, take, arith, refl, sym, ap, ◌∙◌, slice_index}
use Rattle.std.specs.Prelude.{bit_xor}
use Rattle.std.proofs.lemmas.List.{length-set, map-append, take_all, take_more, take_more_set}
use Rattle.dcr_greet.specs.Hmac.{crossed}
use Rattle.dcr_greet.proofs.mac.crossed.Goals as goal

pub bytes-init : goal.bytes-init
bytes-init c = (refl, refl)

pub bytes-preserved : goal.bytes-preserved
bytes-preserved c =
    let len = c.bytes.invariant.0 in
    let byte = c.args.byte in
    let block = c.args.block.now in
    let i = c.bytes.i in
    let b = slice_index block i in (
      length-set _ _ _ ∙ len,
      take_more_set c.bytes.made i (bit_xor b byte) (omega arith) ∙ ap (λ (l : List ℕ). l ++ bit_xor b byte ∷ []) c.bytes.invariant.1
          ∙ sym (ap (crossed byte) (take_more block i 0 (omega arith)) ∙ map-append (λ x. bit_xor x byte) (take i block) (b ∷ [])),
    )

pub returns : goal.returns
returns c =
    let len = c.bytes.invariant.0 in
    let done = c.bytes.auto.i-end in
    let block = c.args.block.now in
    let e : c.bytes.i ≡ 64 = omega arith in
    sym (take_all 64 c.bytes.made (omega arith)) ∙ rw e at c.bytes.invariant.1 ∙ ap (crossed c.args.byte) (take_all 64 block (omega arith))
