-- The bits that an iterator has still to give, as it goes from bit to bit and from word to word.
use Rattle.std.proofs.Common.{◌≡◌, ◌≢◌, ℕ, ◌+◌, ◌*◌, ◌/◌, ◌%◌, ◌^◌, ◌<◌, ◌≤◌, inl, inr, Bool, false, true, not, ◌&&◌, eqb, leb, List, length, get_or, set, Some, None, refl, sym, ap, ◌∙◌, arith}
use Rattle.std.specs.Prelude.{bit_and}
use Rattle.std.specs.Int.{bit_not, trailing_zeros, w64}
use Rattle.std.proofs.Math.Bool.{and-true, and-false}
use Rattle.std.proofs.lemmas.Bool.{cases_lt, cases_eq, true≢false, and_from, and_parts, eq-eqb, eqb-true, lt-leb, le-leb, leb-true}
use Rattle.std.proofs.lemmas.List.{length-set, set-set, set-get_or, get_or-set_same}
use Rattle.std.proofs.lemmas.Nat.Bits.{bit_at-trailing_zeros}
use Rattle.dcr_set.specs.Bits.{bit}
use Rattle.dcr_set.specs.Least.{least, IsLeast, NonePasses}
use Rattle.dcr_set.specs.EventIterModel.{comes}
use Rattle.dcr_set.proofs.LeastLemmas.{least-some, least-none}
use Rattle.dcr_set.proofs.BitLemmas.{digit, digit-zero, bit_in, bit-set_same, bit-set_other, bit-clear_bit}

-- at first all bits come
pub comes_all : (ws : List ℕ) (k : ℕ) → comes ws 0 (get_or ws 0 0) k ≡ bit ws k
comes_all ws k = ap (λ xs. bit xs k && leb (64 * 0) k) (set-get_or ws 0 0) ∙ ap (λ t. bit ws k && t) (le-leb (64 * 0) k (omega arith)) ∙ and-true (bit ws k)

-- nothing comes of the words before the present one
pub comes_before : (ws : List ℕ) (w rest k : ℕ) → k < 64 * w → comes ws w rest k ≡ false
comes_before ws w rest k before = ap (λ t. bit (set ws w rest) k && t) (lt-leb (64 * w) k before) ∙ and-false (bit (set ws w rest) k)

-- of the present one comes the rest
pub comes_here : (ws : List ℕ) (w rest k : ℕ) → w < length ws → k / 64 ≡ w → comes ws w rest k ≡ digit rest (k % 64)
comes_here ws w rest k within same =
    ap (λ t. bit (set ws w rest) k && t) (le-leb (64 * w) k (omega arith)) ∙ and-true (bit (set ws w rest) k) ∙ bit-set_same ws w rest k within same

-- and all bits of the words behind it
pub comes_behind : (ws : List ℕ) (w rest k : ℕ) → w < k / 64 → comes ws w rest k ≡ bit ws k
comes_behind ws w rest k behind =
    ap (λ t. bit (set ws w rest) k && t) (le-leb (64 * w) k (omega arith)) ∙ and-true (bit (set ws w rest) k)
    ∙ bit-set_other ws w rest k (λ same. absurd (omega arith))

-- the lowest bit of the rest is the least that comes
pub comes_first : (ws : List ℕ) (w rest : ℕ) → length ws ≡ 16 → w < 16 → rest ≢ 0 → rest < 2 ^ 64 → IsLeast 1024 (comes ws w rest) (w * 64 + trailing_zeros w64 rest)
comes_first ws w rest room within some fits =
    let z = trailing_zeros w64 rest in
    let lowest = bit_at-trailing_zeros w64 rest (omega arith) fits in
    let word : (w * 64 + z) / 64 ≡ w = (let l : z < 64 = lowest.0 in omega arith) in
    let place : (w * 64 + z) % 64 ≡ z = (let l : z < 64 = lowest.0 in omega arith) in record {
      below = (let l : z < 64 = lowest.0 in omega arith);
      passes = comes_here ws w rest (w * 64 + z) (omega arith) word ∙ ap (digit rest) place ∙ ap (λ x. eqb x 1) lowest.1;
      none_before = λ k before. elim (cases_lt k (64 * w)) [
        | inl earlier ↦ comes_before ws w rest k earlier
        | inr from ↦
            let t : z < 64 = lowest.0 in
            let same : k / 64 ≡ w = omega arith in
            comes_here ws w rest k (omega arith) same ∙ ap (λ x. eqb x 1) (lowest.2 (k % 64) (omega arith))
      ];
    }

and_swap : (a b t : Bool) → ((a && not t) && b) ≡ ((a && b) && not t)
and_swap true b t = and_swapped b t
  where
    and_swapped : (b t : Bool) → (not t && b) ≡ (b && not t)
    and_swapped true true = refl
    and_swapped true false = refl
    and_swapped false true = refl
    and_swapped false false = refl
and_swap false b t = refl

-- once a bit of the rest is given all others come
pub comes_others : (ws : List ℕ) (w rest r : ℕ) → length ws ≡ 16 → w < 16 → r < 64 → (k : ℕ)
    → comes ws w (bit_and rest (bit_not w64 (1 * 2 ^ r % 2 ^ 64))) k ≡ (comes ws w rest k && not (eqb k (w * 64 + r)))
comes_others ws w rest r room within low k =
    let cleared : ℕ → ℕ = λ n. bit_and n (bit_not w64 (1 * 2 ^ r % 2 ^ 64)) in let now = set ws w rest in
    ap (λ xs. bit xs k && leb (64 * w) k) (sym (set-set ws w rest (cleared rest)))
    ∙ ap (λ n. bit (set now w (cleared n)) k && leb (64 * w) k) (sym (get_or-set_same ws w rest 0 (omega arith)))
    ∙ ap (λ t. t && leb (64 * w) k) (bit-clear_bit now (w * 64 + r) w r (omega (arith, length-set ws w rest)) (omega arith) (omega arith) k)
    ∙ and_swap (bit now k) (leb (64 * w) k) (eqb k (w * 64 + r))

-- a word of 0 has no bit
zero_word : (ws : List ℕ) (j k : ℕ) → get_or ws j 0 ≡ 0 → k / 64 ≡ j → bit ws k ≡ false
zero_word ws j k zero_there same = bit_in ws j k same ∙ ap (λ n. digit n (k % 64)) zero_there ∙ digit-zero (k % 64)

-- where the rest is 0, and so are the words behind it up to another one, what comes are the bits from that one on
pub comes_later : (ws : List ℕ) (w v : ℕ) → length ws ≡ 16 → w < v → v < 16 → ((j : ℕ) → w < j → j < v → get_or ws j 0 ≡ 0) → (k : ℕ) → comes ws w 0 k ≡ comes ws v (get_or ws v 0) k
comes_later ws w v room later within zeros k = elim (cases_lt k (64 * v)) [
  | inl before ↦ elim (cases_lt k (64 * w)) [
    | inl earlier ↦ comes_before ws w 0 k earlier
    | inr from ↦ elim (cases_eq (k / 64) w) [
      | inl same ↦ comes_here ws w 0 k (omega arith) same ∙ digit-zero (k % 64)
      | inr other ↦ comes_behind ws w 0 k (omega arith) ∙ zero_word ws (k / 64) k (zeros (k / 64) (omega arith) (omega arith)) refl
    ]
  ] ∙ sym (comes_before ws v (get_or ws v 0) k before)
  | inr past ↦
      comes_behind ws w 0 k (omega arith)
      ∙ sym (ap (λ xs. bit xs k && leb (64 * v) k) (set-get_or ws v 0) ∙ ap (λ t. bit ws k && t) (le-leb (64 * v) k past) ∙ and-true (bit ws k))
]

-- where the rest is 0, and so are the words behind it up to the end, no bit comes
pub comes_none : (ws : List ℕ) (w end : ℕ) → length ws ≡ 16 → w < 16 → ((j : ℕ) → w < j → j < end → get_or ws j 0 ≡ 0) → ((k : ℕ) → 64 * end ≤ k → bit ws k ≡ false)
    → NonePasses 1024 (comes ws w 0)
comes_none ws w end room within zeros clear k below = elim (cases_lt k (64 * w)) [
  | inl earlier ↦ comes_before ws w 0 k earlier
  | inr from ↦ elim (cases_eq (k / 64) w) [
    | inl same ↦ comes_here ws w 0 k (omega arith) same ∙ digit-zero (k % 64)
    | inr other ↦ comes_behind ws w 0 k (omega arith) ∙ elim (cases_lt k (64 * end)) [
      | inl inside ↦ zero_word ws (k / 64) k (zeros (k / 64) (omega arith) (omega arith)) refl
      | inr past ↦ clear k past
    ]
  ]
]

-- ---- the next word

-- a word behind the present one that isn't 0
abbrev has_bits : List ℕ → ℕ → ℕ → Bool
has_bits ws w j = leb (w + 1) j && not (eqb (get_or ws j 0) 0)

zero_from : (ws : List ℕ) (w j : ℕ) → w < j → has_bits ws w j ≡ false → get_or ws j 0 ≡ 0
zero_from ws w j behind fails = by (eqb (get_or ws j 0) 0) refl
  where
    by : (b : Bool) → eqb (get_or ws j 0) 0 ≡ b → get_or ws j 0 ≡ 0
    by true e = eqb-true _ 0 e
    by false e = absurd (true≢false (sym (and_from (leb (w + 1) j) _ (le-leb (w + 1) j (omega arith)) (ap not e)) ∙ fails))

-- what is known of the next word
pub record IsNext (ws : List ℕ) (w v : ℕ) : Type 0 where
  pub within : v < 16
  pub some : get_or ws v 0 ≢ 0
  pub same : (k : ℕ) → comes ws w 0 k ≡ comes ws v (get_or ws v 0) k

pub is_next : (ws : List ℕ) (w v end : ℕ) → length ws ≡ 16 → end ≤ 16 → least end (has_bits ws w) ≡ Some v → IsNext ws w v
is_next ws w v end room most found =
    let first = least-some end (has_bits ws w) v found in
    let passes = and_parts (leb (w + 1) v) (not (eqb (get_or ws v 0) 0)) first.passes in
    let later : w < v = (let l = leb-true (w + 1) v passes.0 in omega arith) in
    let within : v < 16 = (let l = first.below in omega arith) in record {
      within = within;
      some = λ zero_there. true≢false (sym passes.1 ∙ ap not (eq-eqb (get_or ws v 0) 0 zero_there));
      same = comes_later ws w v room later within (λ j behind before. zero_from ws w j behind (first.none_before j before));
    }

pub none_next : (ws : List ℕ) (w end : ℕ) → length ws ≡ 16 → w < 16 → ((k : ℕ) → 64 * end ≤ k → bit ws k ≡ false) → least end (has_bits ws w) ≡ None → NonePasses 1024 (comes ws w 0)
none_next ws w end room within clear none = comes_none ws w end room within (λ j behind below. zero_from ws w j behind (least-none end (has_bits ws w) none j below)) clear
