use Rattle.std.proofs.Common.{◌+◌, ◌*◌, ◌&&◌, Some, sym, ap, ◌∙◌, arith}
use Rattle.dcr_set.specs.Bits.{bit}
use Rattle.dcr_set.proofs.BitLemmas.{lowest_in, none_in, and_three_in}
use Rattle.dcr_set.proofs.LeastLemmas.{least-none_from}
use Rattle.dcr_set.proofs.lowest.lowest_of_three_below.Goals as goal

pub returns-then-word-ne0 : goal.returns-then-word-ne0
returns-then-word-ne0 c =
    ap (λ z. Some (c.loop-i.i * 64 + z)) c.lowest_bit.ensures.place
    ∙ lowest_in (λ k. bit c.args.one.now k && (bit c.args.second.now k && bit c.args.third.now k)) c.args.count c.loop-i.i _ (omega arith) c.if-word-ne0.true c.lowest_bit.ensures.fits
    (λ k same. and_three_in c.args.one.now c.args.second.now c.args.third.now c.loop-i.i k same) c.loop-i.invariant

pub loop-i-preserved : goal.loop-i-preserved
loop-i-preserved c = none_in (λ k. bit c.args.one.now k && (bit c.args.second.now k && bit c.args.third.now k)) c.loop-i.i _ c.if-word-ne0.false (λ k same. and_three_in c.args.one.now c.args.second.now c.args.third.now c.loop-i.i k same) c.loop-i.invariant

pub returns : goal.returns
returns c = sym (least-none_from (64 * c.args.count) (λ k. bit c.args.one.now k && (bit c.args.second.now k && bit c.args.third.now k)) (λ k below. c.loop-i.invariant k (omega arith)))
