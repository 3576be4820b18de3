use Rattle.std.proofs.Common.{◌/◌, ◌%◌, ◌&&◌, not, get_or, sym, ap, ◌∙◌, arith}
use Rattle.std.proofs.Math.Bool.{and-true}
use Rattle.dcr_set.specs.Bits.{bit}
use Rattle.dcr_set.proofs.BitLemmas.{bit_by_words, digit, digit-and, digit-not}
use Rattle.dcr_set.proofs.words.subtract_below.Goals as goal

pub returns-clause-bits : goal.returns-clause-bits
unfolding bit
returns-clause-bits c =
    let xs = c.args.words.now in let ys = c.args.other.now in
    bit_by_words (λ k. bit xs k && not (bit ys k)) c.loop-i.words xs c.args.count
    (λ k within. ap (λ n. digit n (k % 64)) (c.loop-i.invariant.done (k / 64) (omega arith)) ∙ digit-and _ _ (k % 64)
    ∙ ap (λ t. bit xs k && t) (digit-not (get_or ys (k / 64) 0) (k % 64) (c.loop-i.invariant.fits (k / 64) (omega arith)) (omega arith)))
    (λ j behind. c.loop-i.invariant.rest j (omega arith))
    (λ k past. sym (ap (λ t. bit xs k && not t) (c.requires.clear k past) ∙ and-true (bit xs k)))
