-- Where the next run of bits begins and where it ends, and what a run is among the numbers of a set.
use Rattle.std.proofs.Common.{◌≡◌, ◌≢◌, ℕ, zero, suc, ◌+◌, ◌-◌, ◌*◌, ◌/◌, ◌%◌, ◌^◌, ◌<◌, ◌≤◌, inl, inr, Bool, true, false, not, ◌&&◌, eqb, leb, List, [], ◌∷◌, ◌++◌, length, get_or, Some, None, refl, sym, ap, ◌∙◌, arith}
use Rattle.std.specs.List.{range_with_len}
use Rattle.std.specs.Prelude.{bit_and}
use Rattle.std.specs.Int.{bit_not, trailing_zeros, w64}
use Rattle.std.proofs.Math.Bool.{and-true, and-false}
use Rattle.std.proofs.lemmas.Bool.{cases_lt, cases_eq, false≢true, and_left, and_parts, not-true, lt-leb, le-leb, leb-true}
use Rattle.std.proofs.lemmas.Nat.Bits.{bit_at_mask_inside, bit_at_mask_below, bit_at-trailing_zeros, ones_shl}
use Rattle.dcr_set.specs.Bits.{bit}
use Rattle.dcr_set.specs.Least.{least}
use Rattle.dcr_set.specs.EventSet.{has, numbers, numbers_from, first_at_least}
use Rattle.dcr_set.specs.EventIterModel.{comes}
use Rattle.dcr_set.proofs.LeastLemmas.{least-some, least-none, least-none_from, least-from, least-ext, least-room}
use Rattle.dcr_set.proofs.BitLemmas.{digit, digit-and, digit-not, digit-zero, bit_in}
use Rattle.dcr_set.proofs.SetLemmas.{has_past}
use Rattle.dcr_set.proofs.IterLemmas.{comes_before, comes_here, comes_behind, comes_first, none_next, IsNext}
use Rattle.dcr_set.proofs.NumbersLemmas.{passing, passing_none, taken, skipped, numbers_is}

-- ---- the bits of one word from a number on

-- `MAX << r`
abbrev pub high : ℕ → ℕ
high r = (2 ^ 64 - 1) * 2 ^ r % 2 ^ 64

-- it keeps the bits from r on
digit-high : (n r i : ℕ) → r < 64 → i < 64 → digit (bit_and n (high r)) i ≡ (digit n i && leb r i)
digit-high n r i low within =
    digit-and n (high r) i ∙ ap (λ d. digit n i && d) (ap (λ m. digit m i) (ones_shl 64 r (omega arith)) ∙ elim (cases_lt i r) [
      | inl below ↦ ap (λ x. eqb x 1) (bit_at_mask_below r 64 i below) ∙ sym (lt-leb r i below)
      | inr past ↦ ap (λ x. eqb x 1) (bit_at_mask_inside r 64 i past within) ∙ sym (le-leb r i past)
    ])

-- in the word of a number the bits from the number on are those from its place on
in_word : (from w r k : ℕ) → w ≡ from / 64 → r ≡ from % 64 → k / 64 ≡ w → leb r (k % 64) ≡ leb from k
in_word from w r k we re same = elim (cases_lt (k % 64) r) [
  | inl below ↦ lt-leb r (k % 64) below ∙ sym (lt-leb from k (omega arith))
  | inr past ↦ le-leb r (k % 64) past ∙ sym (le-leb from k (omega arith))
]

-- ---- where a run begins

-- the bits from a number on are those that come once the lower bits of its word are left out
comes_from : (ws : List ℕ) (from w r : ℕ) → length ws ≡ 16 → w < 16 → w ≡ from / 64 → r ≡ from % 64 → (k : ℕ)
    → comes ws w (bit_and (get_or ws w 0) (high r)) k ≡ (bit ws k && leb from k)
comes_from ws from w r room within we re k = let rest = bit_and (get_or ws w 0) (high r) in elim (cases_lt k (64 * w)) [
  | inl before ↦ comes_before ws w rest k before ∙ sym (ap (λ t. bit ws k && t) (lt-leb from k (omega arith)) ∙ and-false (bit ws k))
  | inr past ↦ elim (cases_eq (k / 64) w) [
    | inl same ↦
        comes_here ws w rest k (omega arith) same ∙ digit-high (get_or ws w 0) r (k % 64) (omega arith) (omega arith)
        ∙ ap (λ t. t && leb r (k % 64)) (sym (bit_in ws w k same)) ∙ ap (λ t. bit ws k && t) (in_word from w r k we re same)
    | inr other ↦
        comes_behind ws w rest k (omega arith) ∙ sym (ap (λ t. bit ws k && t) (le-leb from k (omega arith)) ∙ and-true (bit ws k))
  ]
]

-- the words have no bit from the room on, and these are the word and the place of a number below it
pub record IsWithin (ws : List ℕ) (room from w r : ℕ) : Type 0 where
  pub words : length ws ≡ 16
  pub most : room ≤ 1024
  pub clear : (k : ℕ) → room ≤ k → bit ws k ≡ false
  pub below : from < room
  pub word : w ≡ from / 64
  pub place : r ≡ from % 64

-- the least bit from a number on is the least that comes
least_comes : (ws : List ℕ) (room from w r : ℕ) → IsWithin ws room from w r → least room (λ k. bit ws k && leb from k) ≡ least 1024 (comes ws w (bit_and (get_or ws w 0) (high r)))
least_comes ws room from w r h =
    let inside : w < 16 = omega (arith, h.word, h.below, h.most) in
    sym (least-room room 1024 (λ k. bit ws k && leb from k) h.most (λ j past. and_left (bit ws j) (leb from j) (h.clear j past)))
    ∙ least-ext 1024 (λ k. bit ws k && leb from k) (comes ws w (bit_and (get_or ws w 0) (high r))) (λ k _. sym (comes_from ws from w r h.words inside h.word h.place k))

-- it is the lowest bit of what is left of the number's word
pub first_in_word : (ws : List ℕ) (room from w r : ℕ) → IsWithin ws room from w r → bit_and (get_or ws w 0) (high r) ≢ 0 → bit_and (get_or ws w 0) (high r) < 2 ^ 64
    → Some (w * 64 + trailing_zeros w64 (bit_and (get_or ws w 0) (high r))) ≡ least room (λ k. bit ws k && leb from k)
first_in_word ws room from w r h some fits =
    let rest = bit_and (get_or ws w 0) (high r) in
    let inside : w < 16 = omega (arith, h.word, h.below, h.most) in
    sym (least_comes ws room from w r h ∙ least-from 1024 (comes ws w rest) (w * 64 + trailing_zeros w64 rest) (comes_first ws w rest h.words inside some fits))

-- where nothing is left of it, the lowest bit of the next word that has one
pub first_later : (ws : List ℕ) (room from w r v : ℕ) → IsWithin ws room from w r → bit_and (get_or ws w 0) (high r) ≡ 0 → IsNext ws w v → get_or ws v 0 < 2 ^ 64
    → Some (v * 64 + trailing_zeros w64 (get_or ws v 0)) ≡ least room (λ k. bit ws k && leb from k)
first_later ws room from w r v h nothing next fits =
    let word = get_or ws v 0 in
    sym (least_comes ws room from w r h ∙ ap (λ n. least 1024 (comes ws w n)) nothing ∙ least-ext 1024 (comes ws w 0) (comes ws v word) (λ k _. next.same k)
    ∙ least-from 1024 (comes ws v word) (v * 64 + trailing_zeros w64 word) (comes_first ws v word h.words next.within next.some fits))

-- and where no word behind it has one there is none
pub none_later : (ws : List ℕ) (room from w r end : ℕ) → IsWithin ws room from w r → bit_and (get_or ws w 0) (high r) ≡ 0 → end ≡ (room + 63) / 64
    → least end (λ j. leb (w + 1) j && not (eqb (get_or ws j 0) 0)) ≡ None → least room (λ k. bit ws k && leb from k) ≡ None
none_later ws room from w r end h nothing ends none =
    let inside : w < 16 = omega (arith, h.word, h.below, h.most) in
    least_comes ws room from w r h ∙ ap (λ n. least 1024 (comes ws w n)) nothing
    ∙ least-none_from 1024 (comes ws w 0) (none_next ws w end h.words inside (λ k past. h.clear k (omega arith)) none)

-- ---- where a run ends

-- e is the least number from `from` on whose bit is not set
pub record EndsRun (ws : List ℕ) (from e : ℕ) : Type 0 where
  pub from_on : from ≤ e
  pub clear : bit ws e ≡ false
  pub set_before : (k : ℕ) → from ≤ k → k < e → bit ws k ≡ true

-- n has, in word i, the bits from `from` on that are not set
abbrev pub HasGaps : List ℕ → ℕ → ℕ → ℕ → Type 0
HasGaps ws from i n = (k : ℕ) → k / 64 ≡ i → digit n (k % 64) ≡ (not (bit ws k) && leb from k)

-- all bits from `from` on are set, up to word i
abbrev pub IsFullTo : List ℕ → ℕ → ℕ → Type 0
IsFullTo ws from i = (k : ℕ) → from ≤ k → k < 64 * i → bit ws k ≡ true

pub gaps_first : (ws : List ℕ) (from w r : ℕ) → get_or ws w 0 < 2 ^ 64 → w ≡ from / 64 → r ≡ from % 64 → HasGaps ws from w (bit_and (bit_not w64 (get_or ws w 0)) (high r))
gaps_first ws from w r fits we re k same =
    digit-high (bit_not w64 (get_or ws w 0)) r (k % 64) (omega arith) (omega arith)
    ∙ ap (λ t. t && leb r (k % 64)) (digit-not (get_or ws w 0) (k % 64) fits (omega arith) ∙ ap not (sym (bit_in ws w k same)))
    ∙ ap (λ t. not (bit ws k) && t) (in_word from w r k we re same)

pub gaps_later : (ws : List ℕ) (from i : ℕ) → get_or ws i 0 < 2 ^ 64 → from < 64 * i → HasGaps ws from i (bit_not w64 (get_or ws i 0))
gaps_later ws from i fits before k same =
    digit-not (get_or ws i 0) (k % 64) fits (omega arith) ∙ ap not (sym (bit_in ws i k same))
    ∙ sym (ap (λ t. not (bit ws k) && t) (le-leb from k (omega arith)) ∙ and-true (not (bit ws k)))

set_where : (b t : Bool) → t ≡ true → (not b && t) ≡ false → b ≡ true
set_where true t e f = refl
set_where false t e f = absurd (false≢true (sym f ∙ e))

-- before the word of a number nothing is asked
pub full_before : (ws : List ℕ) (from w : ℕ) → w ≡ from / 64 → IsFullTo ws from w
full_before ws from w we k above below = absurd (omega arith)

-- the lowest of the gaps ends the run
pub gap_ends : (ws : List ℕ) (from i n : ℕ) → n ≢ 0 → n < 2 ^ 64 → HasGaps ws from i n → IsFullTo ws from i → EndsRun ws from (i * 64 + trailing_zeros w64 n)
gap_ends ws from i n some fits gaps before =
    let z = trailing_zeros w64 n in let e = i * 64 + z in
    let lowest = bit_at-trailing_zeros w64 n (omega arith) fits in
    let word : e / 64 ≡ i = (let l : z < 64 = lowest.0 in omega arith) in
    let place : e % 64 ≡ z = (let l : z < 64 = lowest.0 in omega arith) in
    let passes = and_parts (not (bit ws e)) (leb from e) (sym (gaps e word) ∙ ap (digit n) place ∙ ap (λ x. eqb x 1) lowest.1) in record {
      from_on = leb-true from e passes.1;
      clear = not-true (bit ws e) passes.0;
      set_before = λ k above below. elim (cases_lt k (64 * i)) [
        | inl earlier ↦ before k above earlier
        | inr here ↦
            let t : z < 64 = lowest.0 in
            let same : k / 64 ≡ i = omega arith in
            set_where (bit ws k) (leb from k) (le-leb from k above) (sym (gaps k same) ∙ ap (λ x. eqb x 1) (lowest.2 (k % 64) (omega arith)))
      ];
    }

-- a word with no gap goes on with it
pub no_gap : (ws : List ℕ) (from i n : ℕ) → n ≡ 0 → HasGaps ws from i n → IsFullTo ws from i → IsFullTo ws from (i + 1)
no_gap ws from i n nothing gaps before k above below = elim (cases_lt k (64 * i)) [
  | inl earlier ↦ before k above earlier
  | inr here ↦
      let same : k / 64 ≡ i = omega arith in
      set_where (bit ws k) (leb from k) (le-leb from k above) (sym (gaps k same) ∙ ap (λ m. digit m (k % 64)) nothing ∙ digit-zero (k % 64))
]

-- ---- runs among the numbers of a set

-- what passes of two stretches, one behind the other
passing-split : (a m n : ℕ) (p : ℕ → Bool) → passing a (m + n) p ≡ passing a m p ++ passing (a + m) n p
passing-split a zero n p =
    ap (λ x. passing a x p) (let none : 0 + n ≡ n = omega arith in none) ∙ ap (λ x. passing x n p) (let same : a ≡ a + 0 = omega arith in same)
passing-split a (suc m) n p =
    ap (λ x. passing a x p) (let same : suc m + n ≡ suc (m + n) = omega arith in same)
    ∙ by (p a) refl (passing-split (a + 1) m n p ∙ ap (λ x. passing (a + 1) m p ++ passing x n p) (let next : a + 1 + m ≡ a + suc m = omega arith in next))
  where
    by : (b : Bool) → p a ≡ b → passing (a + 1) (m + n) p ≡ passing (a + 1) m p ++ passing (a + suc m) n p → passing a (suc (m + n)) p ≡ passing a (suc m) p ++ passing (a + suc m) n p
    by true e rest = taken a (m + n) p e ∙ ap (λ xs. a ∷ xs) rest ∙ sym (ap (λ xs. xs ++ passing (a + suc m) n p) (taken a m p e))
    by false e rest = skipped a (m + n) p e ∙ rest ∙ sym (ap (λ xs. xs ++ passing (a + suc m) n p) (skipped a m p e))

-- where all numbers pass these are all numbers
passing_all : (a n : ℕ) (p : ℕ → Bool) → ((k : ℕ) → a ≤ k → k < a + n → p k ≡ true) → passing a n p ≡ range_with_len a n
passing_all a zero p h = refl
passing_all a (suc n) p h = taken a n p (h a (omega arith) (omega arith)) ∙ ap (λ xs. a ∷ xs) (passing_all (a + 1) n p (λ k l g. h k (omega arith) (omega arith)))

-- from 0 on these are all its numbers
pub numbers_from_0 : (s : List Bool) → numbers_from s 0 ≡ numbers s
numbers_from_0 s = ap (λ n. passing 0 n (has s)) (let same : length s - 0 ≡ length s = omega arith in same) ∙ sym (numbers_is s)

has_where : (b t : Bool) → t ≡ true → (b && t) ≡ false → b ≡ false
has_where false t e f = refl
has_where true t e f = absurd (false≢true (sym f ∙ e))

-- where there is no event from it on there are none
pub numbers_from_none : (s : List Bool) (from : ℕ) → first_at_least s from ≡ None → numbers_from s from ≡ []
numbers_from_none s from none = passing_none from (length s - from) (has s) (λ k above below.
    has_where (has s k) (leb from k) (le-leb from k above) (least-none (length s) (λ j. has s j && leb from j) none k (omega arith)))

-- a is an event, and from it on b is the first number that is none
pub record IsRun (s : List Bool) (a b : ℕ) : Type 0 where
  pub begins : a ≤ b
  pub ends : has s b ≡ false
  pub all : (k : ℕ) → a ≤ k → k < b → has s k ≡ true

-- a run ends in the room, where it begins there
pub run_within : (s : List Bool) (a b : ℕ) → IsRun s a b → a ≤ length s → b ≤ length s
run_within s a b run begins = elim (cases_lt (length s) b) [
  | inl past ↦ absurd (false≢true (sym (has_past s (length s) (omega arith)) ∙ run.all (length s) begins past))
  | inr within ↦ within
]

-- an event that is found is in the set and none stands before it
pub record IsFound (s : List Bool) (from a : ℕ) : Type 0 where
  pub from_on : from ≤ a
  pub below : a < length s
  pub member : has s a ≡ true
  pub none_before : (k : ℕ) → from ≤ k → k < a → has s k ≡ false

pub is_found : (s : List Bool) (from a : ℕ) → first_at_least s from ≡ Some a → IsFound s from a
is_found s from a found =
    let first = least-some (length s) (λ j. has s j && leb from j) a found in
    let passes = and_parts (has s a) (leb from a) first.passes in record {
      from_on = leb-true from a passes.1;
      below = first.below;
      member = passes.0;
      none_before = λ k above before. has_where (has s k) (leb from k) (le-leb from k above) (first.none_before k before);
    }

-- the numbers from one on are the next run and those behind it
pub numbers_run : (s : List Bool) (from a b : ℕ) → IsFound s from a → IsRun s a b → numbers_from s from ≡ range_with_len a (b - a) ++ numbers_from s b
numbers_run s from a b found run =
    let p = has s in
    let above = found.from_on in let below = found.below in let begins = run.begins in
    let within = run_within s a b run (omega arith) in
    let many : length s - from ≡ (a - from) + ((b - a) + (length s - b)) = omega arith in
    let first : from + (a - from) ≡ a = omega arith in
    let last : a + (b - a) ≡ b = omega arith in
    ap (λ n. passing from n p) many ∙ passing-split from (a - from) ((b - a) + (length s - b)) p
    ∙ ap (λ xs. xs ++ passing (from + (a - from)) ((b - a) + (length s - b)) p) (passing_none from (a - from) p (λ k l g. found.none_before k l (omega arith)))
    ∙ ap (λ x. passing x ((b - a) + (length s - b)) p) first
    ∙ passing-split a (b - a) (length s - b) p
    ∙ ap (λ xs. xs ++ passing (a + (b - a)) (length s - b) p) (passing_all a (b - a) p (λ k l g. run.all k l (omega arith)))
    ∙ ap (λ x. range_with_len a (b - a) ++ passing x (length s - b) p) last
