use Rattle.std.proofs.Common.{◌/◌, ◌%◌, ◌||◌, sym, ap, ◌∙◌, arith}
use Rattle.std.proofs.Math.Bool.{or-false}
use Rattle.dcr_set.specs.Bits.{bit}
use Rattle.dcr_set.proofs.BitLemmas.{bit_by_words, digit, digit-or}
use Rattle.dcr_set.proofs.words.unite_below.Goals as goal

pub returns-clause-bits : goal.returns-clause-bits
unfolding bit
returns-clause-bits c =
    let xs = c.args.words.now in let ys = c.args.other.now in
    bit_by_words (λ k. bit xs k || bit ys k) c.loop-i.words xs c.args.count
    (λ k within. ap (λ n. digit n (k % 64)) (c.loop-i.invariant.done (k / 64) (omega arith)) ∙ digit-or _ _ (k % 64))
    (λ j behind. c.loop-i.invariant.rest j (omega arith))
    (λ k past. sym (ap (λ t. bit xs k || t) (c.requires.clear k past) ∙ or-false (bit xs k)))
