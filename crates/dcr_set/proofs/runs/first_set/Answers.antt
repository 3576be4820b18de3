use Rattle.std.proofs.Common.{◌≡◌, ◌+◌, ◌*◌, ◌&&◌, Some, None, leb, sym, ap, ◌∙◌, arith, rules}
use Rattle.std.proofs.Math.Bool.{and-false}
use Rattle.std.proofs.lemmas.Bool.{lt-leb}
use Rattle.dcr_set.specs.Bits.{bit}
use Rattle.dcr_set.specs.Least.{least}
use Rattle.dcr_set.proofs.LeastLemmas.{least-none_from}
use Rattle.dcr_set.proofs.IterLemmas.{IsNext, is_next}
use Rattle.dcr_set.proofs.RunLemmas.{IsWithin, first_in_word, first_later, none_later}
use Rattle.dcr_set.proofs.runs.first_set.Goals as goal
use Rattle.dcr_set.proofs.runs.first_set.Goals.{After-from, In_ok-later}

pub returns-then-from-room : goal.returns-then-from-room
returns-then-from-room c =
    let ws = c.args.words.now in
    sym (least-none_from c.args.room (λ k. bit ws k && leb c.args.from k) (λ j below. ap (λ t. bit ws j && t) (lt-leb c.args.from j (omega arith)) ∙ and-false (bit ws j)))

within : (c : After-from) → IsWithin c.args.words.now c.args.room c.args.from c.from-at.result c.from.result
within c = record { words = omega arith; most = c.requires.most; clear = c.requires.clear; below = omega arith; word = c.from-at.ensures; place = c.from.ensures }

pub returns-then-rest-ne0 : goal.returns-then-rest-ne0
returns-then-rest-ne0 c =
    ap (λ z. Some (c.from-at.result * 64 + z)) c.lowest_bit.ensures.place
    ∙ first_in_word c.args.words.now c.args.room c.args.from c.from-at.result c.from.result (within (goal.at.returns-then-rest-ne0 c).After-from) c.if-rest-ne0.true c.lowest_bit.ensures.fits

pub returns-in_err-later : goal.returns-in_err-later
returns-in_err-later c =
    let ws = c.args.words.now in
    let none : least c.args.room (λ k. bit ws k && leb c.args.from k) ≡ None =
    none_later ws c.args.room c.args.from c.from-at.result c.from.result c.from-2.result (within (goal.at.returns-in_err-later c).After-from) c.if-rest-ne0.false c.from-2.ensures
    (sym c.word_from.ensures ∙ c.in_err-later.was) in
    search (rules, none)

next : (c : In_ok-later) → IsNext c.args.words.now c.from-at.result c.in_ok-later.later
next c = is_next c.args.words.now c.from-at.result c.in_ok-later.later c.from-2.result (omega arith) (omega arith) (sym c.word_from.ensures ∙ c.in_ok-later.was)

pub overflow_cast-result-2 : goal.overflow_cast-result-2
overflow_cast-result-2 c = omega (arith, (next (goal.at.overflow_cast-result-2 c).In_ok-later).within)

pub overflow_mul-result-2 : goal.overflow_mul-result-2
overflow_mul-result-2 c = omega (arith, (next (goal.at.overflow_mul-result-2 c).In_ok-later).within)

pub offset_bounds-words-later : goal.offset_bounds-words-later
offset_bounds-words-later c = omega (arith, (next (goal.at.offset_bounds-words-later c).In_ok-later).within)

pub bounds-words-later : goal.bounds-words-later
bounds-words-later c = (next (goal.at.bounds-words-later c).In_ok-later).within

pub lowest_bit-requires-2 : goal.lowest_bit-requires-2
lowest_bit-requires-2 c = (next (goal.at.lowest_bit-requires-2 c).In_ok-later).some

pub overflow_add-result-2 : goal.overflow_add-result-2
overflow_add-result-2 c = omega (arith, (next (goal.at.overflow_add-result-2 c).In_ok-later).within, c.lowest_bit-2.ensures.low)

pub returns : goal.returns
returns c =
    let t = goal.at.returns c in
    ap (λ z. Some (c.in_ok-later.later * 64 + z)) c.lowest_bit-2.ensures.place
    ∙ first_later c.args.words.now c.args.room c.args.from c.from-at.result c.from.result c.in_ok-later.later (within t.After-from) c.if-rest-ne0.false (next t.In_ok-later) c.lowest_bit-2.ensures.fits
