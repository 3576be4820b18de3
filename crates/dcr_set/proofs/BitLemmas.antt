-- The bits of words, one word at a time.
use Rattle.std.proofs.Common.{◌≡◌, ◌≢◌, set, cond, Some, ℕ, zero, suc, ◌+◌, ◌-◌, ◌*◌, ◌/◌, ◌%◌, ◌^◌, ◌<◌, ◌≤◌, min, max, Bool, true, false, not, ◌&&◌, ◌||◌, eqb, List, length, get_or, refl, sym, ap, ◌∙◌, arith, inl, inr}
use Rattle.std.proofs.lemmas.Bool.{cases_lt, cases_eq, eq-eqb, ne_eqb}
use Rattle.std.proofs.lemmas.List.{get_or_past, get_or-set_same, get_or-set_other}
use Rattle.std.proofs.lemmas.Nat.Bits.{bit_at-lt, bit_at_or, bit_at_and, bit_at_not, bit_at-zero, bit_at_set_same, bit_at_set_other, bit_at_clear_same, bit_at_clear_other, bit_at-trailing_zeros, shr_and_one}
use Rattle.std.specs.Prelude.{bit_and, bit_or}
use Rattle.std.specs.Int.{bit_at, bit_not, trailing_zeros, w64}
use Rattle.dcr_set.specs.Bits.{bit}
use Rattle.dcr_set.specs.Least.{least}
use Rattle.dcr_set.proofs.LeastLemmas.{least-from}

-- whether bit i of one number is set
abbrev pub digit : ℕ → ℕ → Bool
digit n i = eqb (bit_at n i) 1

-- bit k is bit k % 64 of word k / 64
pub bit_digit : (words : List ℕ) (k : ℕ) → bit words k ≡ digit (get_or words (k / 64) 0) (k % 64)
unfolding bit
bit_digit words k = refl

-- on numbers below 2 `max` is or, `min` is and, and `1 - x` is not
max_tests : (x y : ℕ) → x < 2 → y < 2 → eqb (max x y) 1 ≡ (eqb x 1 || eqb y 1)
max_tests zero zero h l = refl
max_tests zero (suc zero) h l = refl
max_tests (suc zero) zero h l = refl
max_tests (suc zero) (suc zero) h l = refl
max_tests (suc (suc x)) y h l = absurd (omega arith)
max_tests x (suc (suc y)) h l = absurd (omega arith)

min_tests : (x y : ℕ) → x < 2 → y < 2 → eqb (min x y) 1 ≡ (eqb x 1 && eqb y 1)
min_tests zero zero h l = refl
min_tests zero (suc zero) h l = refl
min_tests (suc zero) zero h l = refl
min_tests (suc zero) (suc zero) h l = refl
min_tests (suc (suc x)) y h l = absurd (omega arith)
min_tests x (suc (suc y)) h l = absurd (omega arith)

not_test : (x : ℕ) → x < 2 → eqb (1 - x) 1 ≡ not (eqb x 1)
not_test zero h = refl
not_test (suc zero) h = refl
not_test (suc (suc x)) h = absurd (omega arith)

-- what is done to a word is done to each of its bits
pub digit-or : (a b i : ℕ) → digit (bit_or a b) i ≡ (digit a i || digit b i)
digit-or a b i = ap (λ x. eqb x 1) (bit_at_or a b i) ∙ max_tests (bit_at a i) (bit_at b i) (bit_at-lt a i) (bit_at-lt b i)

pub digit-and : (a b i : ℕ) → digit (bit_and a b) i ≡ (digit a i && digit b i)
digit-and a b i = ap (λ x. eqb x 1) (bit_at_and a b i) ∙ min_tests (bit_at a i) (bit_at b i) (bit_at-lt a i) (bit_at-lt b i)

pub digit-not : (n i : ℕ) → n < 2 ^ 64 → i < 64 → digit (bit_not w64 n) i ≡ not (digit n i)
digit-not n i h l = ap (λ x. eqb x 1) (bit_at_not w64 n i h l) ∙ not_test (bit_at n i) (bit_at-lt n i)

pub digit-zero : (i : ℕ) → digit 0 i ≡ false
digit-zero i = ap (λ x. eqb x 1) (bit_at-zero i)

-- there is no bit past the last word
pub bit-past : (words : List ℕ) (k : ℕ) → length words ≤ k / 64 → bit words k ≡ false
bit-past words k h = bit_digit words k ∙ ap (λ n. digit n (k % 64)) (get_or_past words (k / 64) 0 h) ∙ digit-zero (k % 64)

-- what is done to each bit of the words below `count`, where the others stay and no bit of theirs would change
pub bit_by_words : (p : ℕ → Bool) (ws xs : List ℕ) (count : ℕ)
    → ((k : ℕ) → k / 64 < count → digit (get_or ws (k / 64) 0) (k % 64) ≡ p k)
    → ((j : ℕ) → count ≤ j → get_or ws j 0 ≡ get_or xs j 0)
    → ((k : ℕ) → 64 * count ≤ k → bit xs k ≡ p k)
    → (k : ℕ) → bit ws k ≡ p k
bit_by_words p ws xs count done kept same k = elim (cases_lt (k / 64) count) [
  | inl within ↦ bit_digit ws k ∙ done k within
  | inr behind ↦ bit_digit ws k ∙ ap (λ n. digit n (k % 64)) (kept (k / 64) behind) ∙ sym (bit_digit xs k) ∙ same k (omega arith)
]

-- the bits of word i of one, of two and of three lists of words
pub bit_in : (ws : List ℕ) (i k : ℕ) → k / 64 ≡ i → bit ws k ≡ digit (get_or ws i 0) (k % 64)
bit_in ws i k same = bit_digit ws k ∙ ap (λ j. digit (get_or ws j 0) (k % 64)) same

pub and_in : (xs ys : List ℕ) (i k : ℕ) → k / 64 ≡ i → (bit xs k && bit ys k) ≡ digit (bit_and (get_or xs i 0) (get_or ys i 0)) (k % 64)
and_in xs ys i k same =
    ap (λ b. b && bit ys k) (bit_in xs i k same) ∙ ap (λ b. digit (get_or xs i 0) (k % 64) && b) (bit_in ys i k same)
    ∙ sym (digit-and (get_or xs i 0) (get_or ys i 0) (k % 64))

pub and_three_in : (xs ys zs : List ℕ) (i k : ℕ) → k / 64 ≡ i
    → (bit xs k && (bit ys k && bit zs k)) ≡ digit (bit_and (get_or xs i 0) (bit_and (get_or ys i 0) (get_or zs i 0))) (k % 64)
and_three_in xs ys zs i k same =
    ap (λ b. b && (bit ys k && bit zs k)) (bit_in xs i k same) ∙ ap (λ b. digit (get_or xs i 0) (k % 64) && b) (and_in ys zs i k same)
    ∙ sym (digit-and (get_or xs i 0) (bit_and (get_or ys i 0) (get_or zs i 0)) (k % 64))

pub and_not_in : (xs ys zs : List ℕ) (i k : ℕ) → get_or zs i 0 < 2 ^ 64 → k / 64 ≡ i
    → (bit xs k && (bit ys k && not (bit zs k))) ≡ digit (bit_and (get_or xs i 0) (bit_and (get_or ys i 0) (bit_not w64 (get_or zs i 0)))) (k % 64)
and_not_in xs ys zs i k fits same =
    let a = get_or xs i 0 in let b = get_or ys i 0 in let c = get_or zs i 0 in
    ap (λ t. t && (bit ys k && not (bit zs k))) (bit_in xs i k same) ∙ ap (λ t. digit a (k % 64) && (t && not (bit zs k))) (bit_in ys i k same)
    ∙ ap (λ t. digit a (k % 64) && (digit b (k % 64) && t)) (ap not (bit_in zs i k same) ∙ sym (digit-not c (k % 64) fits (omega arith)))
    ∙ sym (digit-and a (bit_and b (bit_not w64 c)) (k % 64) ∙ ap (λ t. digit a (k % 64) && t) (digit-and b (bit_not w64 c) (k % 64)))

-- one word is written: its bits are those of what was written, and all others stay
pub bit-set_same : (ws : List ℕ) (w n k : ℕ) → w < length ws → k / 64 ≡ w → bit (set ws w n) k ≡ digit n (k % 64)
bit-set_same ws w n k l e = bit_digit (set ws w n) k ∙ ap (λ x. digit x (k % 64)) (ap (λ j. get_or (set ws w n) j 0) e ∙ get_or-set_same ws w n 0 l)

pub bit-set_other : (ws : List ℕ) (w n k : ℕ) → k / 64 ≢ w → bit (set ws w n) k ≡ bit ws k
bit-set_other ws w n k d = bit_digit (set ws w n) k ∙ ap (λ x. digit x (k % 64)) (get_or-set_other ws w (k / 64) n 0 d) ∙ sym (bit_digit ws k)

-- bit e is bit r of word w: what a change of word w to n does to each bit, told by the bits of n
pub changes_bit : (ws : List ℕ) (e w r n : ℕ) (f : Bool → Bool) (g : Bool → Bool) → w < length ws → w ≡ e / 64 → r ≡ e % 64
    → digit n r ≡ f (digit (get_or ws w 0) r)
    → ((i : ℕ) → i < 64 → i ≢ r → digit n i ≡ g (digit (get_or ws w 0) i))
    → ((b : Bool) → g b ≡ b)
    → (k : ℕ) → bit (set ws w n) k ≡ cond (eqb k e) (f (bit ws k)) (bit ws k)
changes_bit ws e w r n f g within we re at_r others g_id k = elim (cases_eq (k / 64) w) [
  | inl same_word ↦ elim (cases_eq (k % 64) r) [
    | inl same_bit ↦
        let same : k ≡ e = omega arith in
        let here : bit ws k ≡ digit (get_or ws w 0) r = bit_digit ws k ∙ ap (λ j. digit (get_or ws j 0) (k % 64)) same_word ∙ ap (digit (get_or ws w 0)) same_bit in
        bit-set_same ws w n k within same_word ∙ ap (digit n) same_bit ∙ at_r ∙ ap f (sym here) ∙ sym (ap (λ t. cond t (f (bit ws k)) (bit ws k)) (eq-eqb k e same))
    | inr other_bit ↦
        let differs : k ≢ e = (λ same. other_bit (omega arith)) in
        let here : bit ws k ≡ digit (get_or ws w 0) (k % 64) = bit_digit ws k ∙ ap (λ j. digit (get_or ws j 0) (k % 64)) same_word in
        bit-set_same ws w n k within same_word ∙ others (k % 64) (omega arith) other_bit ∙ g_id (digit (get_or ws w 0) (k % 64)) ∙ sym here ∙ sym (ap (λ t. cond t (f (bit ws k)) (bit ws k)) (ne_eqb k e differs))
  ]
  | inr other_word ↦
      let differs : k ≢ e = (λ same. other_word (ap (λ x. x / 64) same ∙ sym we)) in
      bit-set_other ws w n k other_word ∙ sym (ap (λ t. cond t (f (bit ws k)) (bit ws k)) (ne_eqb k e differs))
]

or_test : (t b : Bool) → cond t true b ≡ (t || b)
or_test true b = refl
or_test false b = refl

and_not_test : (t b : Bool) → cond t false b ≡ (b && not t)
and_not_test true true = refl
and_not_test true false = refl
and_not_test false true = refl
and_not_test false false = refl

pub bit-set_bit : (ws : List ℕ) (e w r : ℕ) → w < length ws → w ≡ e / 64 → r ≡ e % 64
    → (k : ℕ) → bit (set ws w (bit_or (get_or ws w 0) (1 * 2 ^ r % 2 ^ 64))) k ≡ (eqb k e || bit ws k)
bit-set_bit ws e w r within we re k =
    let low : r < 64 = omega arith in let n = get_or ws w 0 in
    changes_bit ws e w r (bit_or n (1 * 2 ^ r % 2 ^ 64)) (λ _. true) (λ b. b) within we re
    (ap (λ x. eqb x 1) (bit_at_set_same w64 n r low))
    (λ i _ differs. ap (λ x. eqb x 1) (bit_at_set_other w64 n r low i differs))
    (λ _. refl) k ∙ or_test (eqb k e) (bit ws k)

pub bit-clear_bit : (ws : List ℕ) (e w r : ℕ) → w < length ws → w ≡ e / 64 → r ≡ e % 64
    → (k : ℕ) → bit (set ws w (bit_and (get_or ws w 0) (bit_not w64 (1 * 2 ^ r % 2 ^ 64)))) k ≡ (bit ws k && not (eqb k e))
bit-clear_bit ws e w r within we re k =
    let low : r < 64 = omega arith in let n = get_or ws w 0 in
    changes_bit ws e w r (bit_and n (bit_not w64 (1 * 2 ^ r % 2 ^ 64))) (λ _. false) (λ b. b) within we re
    (ap (λ x. eqb x 1) (bit_at_clear_same w64 n r low))
    (λ i within' differs. ap (λ x. eqb x 1) (bit_at_clear_other w64 n r low i within' differs))
    (λ _. refl) k ∙ and_not_test (eqb k e) (bit ws k)

-- the lowest bit of the first word that isn't 0 is the least of all
pub lowest_in : (p : ℕ → Bool) (count i n : ℕ) → i < count → n ≢ 0 → n < 2 ^ 64 → ((k : ℕ) → k / 64 ≡ i → p k ≡ digit n (k % 64)) → ((k : ℕ) → k < 64 * i → p k ≡ false)
    → Some (i * 64 + trailing_zeros w64 n) ≡ least (64 * count) p
lowest_in p count i n within some fits here none =
    let z = trailing_zeros w64 n in
    let lowest = bit_at-trailing_zeros w64 n (omega arith) fits in
    let word : (i * 64 + z) / 64 ≡ i = (let l : z < 64 = lowest.0 in omega arith) in
    let place : (i * 64 + z) % 64 ≡ z = (let l : z < 64 = lowest.0 in omega arith) in
    sym (least-from (64 * count) p (i * 64 + z) (record {
      below = (let l : z < 64 = lowest.0 in omega arith);
      passes = here (i * 64 + z) word ∙ ap (digit n) place ∙ ap (λ x. eqb x 1) lowest.1;
      none_before = λ j l. elim (cases_lt j (64 * i)) [
        | inl below ↦ none j below
        | inr from ↦
            let t : z < 64 = lowest.0 in
            let same : j / 64 ≡ i = omega arith in here j same ∙ ap (λ x. eqb x 1) (lowest.2 (j % 64) (omega arith))
      ];
    }))

-- a word of 0 has no bit that passes
pub none_in : (p : ℕ → Bool) (i n : ℕ) → n ≡ 0 → ((k : ℕ) → k / 64 ≡ i → p k ≡ digit n (k % 64)) → ((k : ℕ) → k < 64 * i → p k ≡ false)
    → (k : ℕ) → k < 64 * (i + 1) → p k ≡ false
none_in p i n nothing here none k l = elim (cases_lt k (64 * i)) [
  | inl below ↦ none k below
  | inr from ↦ let same : k / 64 ≡ i = omega arith in here k same ∙ ap (λ m. digit m (k % 64)) nothing ∙ digit-zero (k % 64)
]

-- the test `(word >> r) & 1 == 1`
pub bit-test : (ws : List ℕ) (e w r : ℕ) → w ≡ e / 64 → r ≡ e % 64 → eqb (bit_and (get_or ws w 0 / 2 ^ r) 1) 1 ≡ bit ws e
bit-test ws e w r we re = ap (λ x. eqb x 1) (shr_and_one (get_or ws w 0) r) ∙ ap (λ j. digit (get_or ws j 0) r) we ∙ ap (digit (get_or ws (e / 64) 0)) re ∙ sym (bit_digit ws e)
