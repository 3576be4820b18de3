use Rattle.std.proofs.Common.{◌/◌, ◌%◌, ◌&&◌, sym, ap, ◌∙◌, arith}
use Rattle.dcr_set.specs.Bits.{bit}
use Rattle.dcr_set.proofs.BitLemmas.{bit_by_words, digit, digit-and}
use Rattle.dcr_set.proofs.words.keep_below.Goals as goal

pub returns-clause-bits : goal.returns-clause-bits
unfolding bit
returns-clause-bits c =
    let xs = c.args.words.now in let ys = c.args.other.now in
    bit_by_words (λ k. bit xs k && bit ys k) c.loop-i.words xs c.args.count
    (λ k within. ap (λ n. digit n (k % 64)) (c.loop-i.invariant.done (k / 64) (omega arith)) ∙ digit-and _ _ (k % 64))
    (λ j behind. c.loop-i.invariant.rest j (omega arith))
    (λ k past. c.requires.clear k past ∙ sym (ap (λ t. t && bit ys k) (c.requires.clear k past)))
