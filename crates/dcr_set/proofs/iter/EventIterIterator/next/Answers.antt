use Rattle.std.proofs.Common.{◌≡◌, ◌≢◌, ℕ, ◌+◌, ◌*◌, ◌%◌, ◌^◌, List, [], ◌∷◌, length, sym, ap, subst, ◌∙◌, arith, rules}
use Rattle.std.specs.Prelude.{bit_and}
use Rattle.std.specs.Int.{bit_not, trailing_zeros, w64}
use Rattle.dcr_set.specs.Least.{IsLeast}
use Rattle.dcr_set.specs.EventIterModel.{comes, events_left, FitsWords}
use Rattle.dcr_set.specs.declared.iter.EventIter.TheInside.{Inside}
use Rattle.dcr_set.proofs.NumbersLemmas.{numbers_first, numbers_none, numbers-ext}
use Rattle.dcr_set.proofs.IterLemmas.{comes_first, comes_others, is_next, none_next}
use Rattle.dcr_set.proofs.iter.EventIterIterator.next.Goals as goal
use Rattle.dcr_set.proofs.iter.EventIterIterator.next.Goals.{Joined-self-eq0, then-self-eq0+in_ok-self-inside, else-self-eq0}

-- the iterator at a word that has bits, before the lowest is given
record IsReady (x : Inside) (left : List ℕ) : Type 0 where
  some : x.rest ≢ 0
  fits : FitsWords x
  left_is : left ≡ events_left x

ready : (c : Joined-self-eq0) → IsReady c.if-self-eq0.self-inside c.args.self.now
ready c = elim c.if-self-eq0.branch [
  | then-self-eq0+in_ok-self-inside w ↦
      let x = c.self.inside in
      let next = is_next x.words.now x.at w.in_ok-self-inside.field-0 x.end c.self.invariant.words c.self.invariant.end (sym w.word_from.ensures ∙ w.in_ok-self-inside.was) in
      subst (λ y. IsReady y c.args.self.now) (sym w.self-inside-is) (record {
        some = next.some;
        fits = record { words = c.self.invariant.words; at = next.within; end = c.self.invariant.end; clear = c.self.invariant.clear };
        left_is = sym c.self.view_is ∙ numbers-ext 1024 _ _ (λ k _. ap (λ n. comes x.words.now x.at n k) w.if-self-eq0.true ∙ next.same k);
      })
  | else-self-eq0 w ↦
      subst (λ y. IsReady y c.args.self.now) (sym w.self-inside-is) (record { some = w.if-self-eq0.false; fits = c.self.invariant; left_is = sym c.self.view_is })
]

pub lowest_bit-low-requires : goal.lowest_bit-low-requires
lowest_bit-low-requires c = (ready c).some

pub returns-in_err-self-inside-clause-steps : goal.returns-in_err-self-inside-clause-steps
returns-in_err-self-inside-clause-steps c =
    let x = c.self.inside in
    let none = none_next x.words.now x.at x.end c.self.invariant.words c.self.invariant.at c.self.invariant.clear (sym c.word_from.ensures ∙ c.in_err-self-inside.was) in
    let empty : c.args.self.now ≡ [] = sym c.self.view_is ∙ numbers_none 1024 _ (λ k below. ap (λ n. comes x.words.now x.at n k) c.if-self-eq0.true ∙ none k below) in
    search (rules, empty)

-- the index of the next word is one of sixteen
pub bounds-self-inside-self-inside : goal.bounds-self-inside-self-inside
bounds-self-inside-self-inside c =
    let x = c.self.inside in
    (is_next x.words.now x.at c.in_ok-self-inside.field-0 x.end c.self.invariant.words c.self.invariant.end (sym c.word_from.ensures ∙ c.in_ok-self-inside.was)).within

pub offset_bounds-self-inside-self-inside : goal.offset_bounds-self-inside-self-inside
offset_bounds-self-inside-self-inside c =
    let x = c.self.inside in
    omega (arith, (is_next x.words.now x.at c.in_ok-self-inside.field-0 x.end c.self.invariant.words c.self.invariant.end (sym c.word_from.ensures ∙ c.in_ok-self-inside.was)).within)

pub overflow_cast-result : goal.overflow_cast-result
overflow_cast-result c = omega (arith, (ready (goal.at.overflow_cast-result c).Joined-self-eq0).fits.at)

pub overflow_mul-result : goal.overflow_mul-result
overflow_mul-result c = omega (arith, (ready (goal.at.overflow_mul-result c).Joined-self-eq0).fits.at)

pub overflow_add-result : goal.overflow_add-result
overflow_add-result c = omega (arith, (ready (goal.at.overflow_add-result c).Joined-self-eq0).fits.at)

pub invariant_of-self : goal.invariant_of-self
invariant_of-self c =
    let fits = (ready (goal.at.invariant_of-self c).Joined-self-eq0).fits in record { words = fits.words; at = fits.at; end = fits.end; clear = fits.clear }

pub returns-clause-steps : goal.returns-clause-steps
returns-clause-steps c =
    let x = c.if-self-eq0.self-inside in let now = ready (goal.at.returns-clause-steps c).Joined-self-eq0 in
    let first = comes_first x.words.now x.at x.rest now.fits.words now.fits.at now.some c.lowest_bit-low.ensures.fits in
    let place : x.at * 64 + trailing_zeros w64 x.rest ≡ x.at * 64 + c.lowest_bit-low.result = ap (λ z. x.at * 64 + z) (sym c.lowest_bit-low.ensures.place) in
    now.left_is ∙ numbers_first 1024 (comes x.words.now x.at x.rest) _ (subst (IsLeast 1024 (comes x.words.now x.at x.rest)) place first)
    ∙ ap (λ xs. (x.at * 64 + c.lowest_bit-low.result) ∷ xs) (numbers-ext 1024 _ _ (λ k _.
    sym (ap (λ r. comes x.words.now x.at (bit_and x.rest (bit_not w64 (1 * 2 ^ r % 2 ^ 64))) k) c.from.ensures
    ∙ comes_others x.words.now x.at x.rest c.lowest_bit-low.result now.fits.words now.fits.at c.lowest_bit-low.ensures.low k)))

pub returns-clause-goes : goal.returns-clause-goes
returns-clause-goes c = let shorter = ap length (returns-clause-steps c) in record {
  on = λ _. (search rules, search rules, omega arith);
  keeps = search rules;
  rests = λ _. search rules;
}
