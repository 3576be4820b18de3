use Rattle.std.proofs.Common.{◌≡◌, ℕ, ◌≤◌, false, not, ◌&&◌, eqb, leb, List, get_or, inl, inr, sym, arith}
use Rattle.std.proofs.lemmas.Bool.{cases_lt, and_from, and_left, and_right, not_from_true, not_from_false, eq-eqb, ne_eqb, le-leb, lt-leb}
use Rattle.dcr_set.proofs.LeastLemmas.{least-from, least-none_from}
use Rattle.dcr_set.proofs.lowest.word_from.Goals as goal

-- what doesn't pass: a word before those that are looked at, or one that is 0
no_bits : (ws : List ℕ) (from j : ℕ) → (from ≤ j → get_or ws j 0 ≡ 0) → (leb from j && not (eqb (get_or ws j 0) 0)) ≡ false
no_bits ws from j zeros = elim (cases_lt j from) [
  | inl before ↦ and_left _ _ (lt-leb from j before)
  | inr here ↦ and_right (leb from j) _ (not_from_true _ (eq-eqb _ 0 (zeros here)))
]

pub returns-then-words-i-ne0 : goal.returns-then-words-i-ne0
returns-then-words-i-ne0 c =
    let ws = c.args.words.now in let i = c.loop-i.i in
    sym (least-from c.args.end (λ j. leb c.args.from j && not (eqb (get_or ws j 0) 0)) i (record {
      below = omega arith;
      passes = and_from _ _ (le-leb c.args.from i (omega arith)) (not_from_false _ (ne_eqb _ 0 c.if-words-i-ne0.true));
      none_before = λ j before. no_bits ws c.args.from j (λ here. c.loop-i.invariant j here before);
    }))

pub returns : goal.returns
returns c =
    let ws = c.args.words.now in
    sym (least-none_from c.args.end (λ j. leb c.args.from j && not (eqb (get_or ws j 0) 0)) (λ j below. no_bits ws c.args.from j (λ here. c.loop-i.invariant j here (omega arith))))
