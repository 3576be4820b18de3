use Rattle.std.proofs.Common.{◌+◌, ◌*◌, sym, subst, arith}
use Rattle.dcr_set.proofs.BitLemmas.{bit-past}
use Rattle.dcr_set.proofs.RunLemmas.{EndsRun, full_before, gaps_first, gaps_later, gap_ends, no_gap}
use Rattle.dcr_set.proofs.runs.first_clear.Goals as goal
use Rattle.dcr_set.proofs.runs.first_clear.Goals.{After-lowest_bit, After-lowest_bit-then-gaps-ne0-2}

pub returns-then-from-ge1024-clause-clear : goal.returns-then-from-ge1024-clause-clear
returns-then-from-ge1024-clause-clear c = bit-past c.args.words.now c.args.from (omega arith)

here : (c : After-lowest_bit) → EndsRun c.args.words.now c.args.from (c.from-at.result * 64 + c.lowest_bit.result)
here c =
    let ws = c.args.words.now in let w = c.from-at.result in
    subst (λ z. EndsRun ws c.args.from (w * 64 + z)) (sym c.lowest_bit.ensures.place)
    (gap_ends ws c.args.from w _ c.if-gaps-ne0.true c.lowest_bit.ensures.fits
    (gaps_first ws c.args.from w c.from.result (c.fits-words w) c.from-at.ensures c.from.ensures) (full_before ws c.args.from w c.from-at.ensures))

pub returns-then-gaps-ne0-clause-from : goal.returns-then-gaps-ne0-clause-from
returns-then-gaps-ne0-clause-from c = (here (goal.at.returns-then-gaps-ne0-clause-from c).After-lowest_bit).from_on

pub returns-then-gaps-ne0-clause-clear : goal.returns-then-gaps-ne0-clause-clear
returns-then-gaps-ne0-clause-clear c = (here (goal.at.returns-then-gaps-ne0-clause-clear c).After-lowest_bit).clear

pub returns-then-gaps-ne0-clause-set_before : goal.returns-then-gaps-ne0-clause-set_before
returns-then-gaps-ne0-clause-set_before c = (here (goal.at.returns-then-gaps-ne0-clause-set_before c).After-lowest_bit).set_before

pub loop-i-init : goal.loop-i-init
loop-i-init c =
    let ws = c.args.words.now in let w = c.from-at.result in
    no_gap ws c.args.from w _ c.if-gaps-ne0.false (gaps_first ws c.args.from w c.from.result (c.fits-words w) c.from-at.ensures c.from.ensures) (full_before ws c.args.from w c.from-at.ensures)

later : (c : After-lowest_bit-then-gaps-ne0-2) → EndsRun c.args.words.now c.args.from (c.loop-i.i * 64 + c.lowest_bit-then-gaps-ne0-2.result)
later c =
    let ws = c.args.words.now in
    subst (λ z. EndsRun ws c.args.from (c.loop-i.i * 64 + z)) (sym c.lowest_bit-then-gaps-ne0-2.ensures.place)
    (gap_ends ws c.args.from c.loop-i.i _ c.if-gaps-ne0-2.true c.lowest_bit-then-gaps-ne0-2.ensures.fits
    (gaps_later ws c.args.from c.loop-i.i (c.fits-words c.loop-i.i) (omega (arith, c.from-at.ensures))) c.loop-i.invariant)

pub returns-then-gaps-ne0-2-clause-clear : goal.returns-then-gaps-ne0-2-clause-clear
returns-then-gaps-ne0-2-clause-clear c = (later (goal.at.returns-then-gaps-ne0-2-clause-clear c).After-lowest_bit-then-gaps-ne0-2).clear

pub returns-then-gaps-ne0-2-clause-set_before : goal.returns-then-gaps-ne0-2-clause-set_before
returns-then-gaps-ne0-2-clause-set_before c = (later (goal.at.returns-then-gaps-ne0-2-clause-set_before c).After-lowest_bit-then-gaps-ne0-2).set_before

pub loop-i-preserved : goal.loop-i-preserved
loop-i-preserved c =
    let ws = c.args.words.now in
    no_gap ws c.args.from c.loop-i.i _ c.if-gaps-ne0-2.false (gaps_later ws c.args.from c.loop-i.i (c.fits-words c.loop-i.i) (omega (arith, c.from-at.ensures))) c.loop-i.invariant

pub returns-clause-clear : goal.returns-clause-clear
returns-clause-clear c = bit-past c.args.words.now 1024 (omega arith)
