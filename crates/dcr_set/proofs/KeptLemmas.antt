-- Sets in a row of words: the bits of each, what is read of them, and that they stay where words come behind.
use Rattle.std.proofs.Common.{◌≡◌, ℕ, ◌+◌, ◌-◌, ◌*◌, ◌/◌, ◌%◌, ◌^◌, ◌<◌, ◌≤◌, Bool, not, ◌&&◌, ltb, eqb, List, length, take, get_or, ◌++◌, inl, inr, sym, ap, ◌∙◌, arith}
use Rattle.std.proofs.Math.Bool.{and-true, and-false}
use Rattle.std.proofs.lemmas.Bool.{cases_lt, cases_order, lt-ltb, le-ltb}
use Rattle.std.proofs.lemmas.List.{get_or-take, get_or-append-add}
use Rattle.std.proofs.lemmas.Nat.Bits.{bit_at_mask_inside, bit_at_mask_below, ones_shl}
use Rattle.std.specs.Prelude.{bit_and}
use Rattle.std.specs.Int.{bit_not, w64}
use Rattle.dcr_set.specs.Bits.{bit}
use Rattle.dcr_set.specs.Kept.{set_at, words_needed}
use Rattle.dcr_set.proofs.BitLemmas.{bit_digit, digit, digit-and, digit-not, digit-zero}
use Rattle.dcr_set.proofs.SetLemmas.{length-those, has_those_both, those-ext}
use Rattle.dcr_set.proofs.StandsLemmas.{Stands, set_from}

-- bit k from a place on is bit k % 64 of word k / 64 from there
pub bit_from : (row : List ℕ) (place k : ℕ) → bit row (64 * place + k) ≡ digit (get_or row (place + k / 64) 0) (k % 64)
bit_from row place k =
    let word : (64 * place + k) / 64 ≡ place + k / 64 = omega arith in
    let low : (64 * place + k) % 64 ≡ k % 64 = omega arith in
    bit_digit row (64 * place + k) ∙ ap (λ j. digit (get_or row j 0) ((64 * place + k) % 64)) word ∙ ap (digit (get_or row (place + k / 64) 0)) low

-- `!(MAX << r)` keeps the bits below r
pub digit-low : (n r i : ℕ) → r < 64 → i < 64 → digit (bit_and n (bit_not w64 ((2 ^ 64 - 1) * 2 ^ r % 2 ^ 64))) i ≡ (ltb i r && digit n i)
digit-low n r i low within =
    let high = (2 ^ 64 - 1) * 2 ^ r % 2 ^ 64 in
    digit-and n (bit_not w64 high) i ∙ ap (λ d. digit n i && d) (digit-not high i (omega arith) within) ∙ elim (cases_lt i r) [
      | inl below ↦
          ap (λ d. digit n i && not d) (ap (λ m. digit m i) (ones_shl 64 r (omega arith)) ∙ ap (λ x. eqb x 1) (bit_at_mask_below r 64 i below)) ∙ and-true (digit n i)
          ∙ sym (ap (λ t. t && digit n i) (lt-ltb i r below))
      | inr past ↦
          ap (λ d. digit n i && not d) (ap (λ m. digit m i) (ones_shl 64 r (omega arith)) ∙ ap (λ x. eqb x 1) (bit_at_mask_inside r 64 i past within)) ∙ and-false (digit n i)
          ∙ sym (ap (λ t. t && digit n i) (le-ltb i r past))
    ]

-- the whole words of the room are those of the row, the next has the bits of the row that are left, and no other has one
pub read_bits : (xs row : List ℕ) (place room w : ℕ) → w ≡ room / 64
    → ((j : ℕ) → j < w → get_or xs j 0 ≡ get_or row (place + j) 0)
    → ((i : ℕ) → i < 64 → digit (get_or xs w 0) i ≡ (ltb i (room % 64) && digit (get_or row (place + w) 0) i))
    → ((j : ℕ) → w < j → get_or xs j 0 ≡ 0)
    → (k : ℕ) → bit xs k ≡ (ltb k room && bit row (64 * place + k))
read_bits xs row place room w whole below at past k = bit_digit xs k ∙ elim (cases_order (k / 64) w) [
  | inl same ↦
      let within : k % 64 < 64 = omega arith in
      ap (λ j. digit (get_or xs j 0) (k % 64)) same ∙ at (k % 64) within
      ∙ ap (λ j. ltb (k % 64) (room % 64) && digit (get_or row (place + j) 0) (k % 64)) (sym same) ∙ ap (λ d. ltb (k % 64) (room % 64) && d) (sym (bit_from row place k))
      ∙ ap (λ t. t && bit row (64 * place + k)) (elim (cases_lt k room) [
        | inl lower ↦ lt-ltb (k % 64) (room % 64) (omega arith) ∙ sym (lt-ltb k room lower)
        | inr from ↦ le-ltb (k % 64) (room % 64) (omega arith) ∙ sym (le-ltb k room from)
      ])
  | inr other ↦ elim other [
    | inl less ↦
        ap (λ n. digit n (k % 64)) (below (k / 64) less) ∙ sym (bit_from row place k)
        ∙ sym (ap (λ t. t && bit row (64 * place + k)) (lt-ltb k room (omega arith)))
    | inr more ↦
        ap (λ n. digit n (k % 64)) (past (k / 64) more) ∙ digit-zero (k % 64)
        ∙ sym (ap (λ t. t && bit row (64 * place + k)) (le-ltb k room (omega arith)))
  ]
]

-- what is read stands for the set that is there
pub read_stands : (xs row : List ℕ) (place room : ℕ) → room ≤ 1024 → ((k : ℕ) → bit xs k ≡ (ltb k room && bit row (64 * place + k))) → Stands xs room (set_at row place room)
unfolding set_at
read_stands xs row place room most bits = record {
  room_is = length-those room (λ k. bit row (64 * place + k));
  most = most;
  members = λ k. bits k ∙ sym (has_those_both room (λ j. bit row (64 * place + j)) k);
}

-- a set keeps its place when words come behind it
pub set_at-front : (row more : List ℕ) (place room : ℕ) → place + words_needed room ≤ length row → take (length row) more ≡ row → set_at more place room ≡ set_at row place room
unfolding set_at
set_at-front row more place room within front = those-ext room (λ k. bit more (64 * place + k)) (λ k. bit row (64 * place + k)) (λ k below.
    let inside : place + k / 64 < length row = omega arith in
    bit_from more place k
    ∙ ap (λ n. digit n (k % 64)) (sym (get_or-take (length row) more (place + k / 64) 0 inside) ∙ ap (λ (xs : List ℕ). get_or xs (place + k / 64) 0) front)
    ∙ sym (bit_from row place k))

-- what is put at the end is the set that the words stand for
pub set_at-end : (row ws : List ℕ) (room : ℕ) (s : List Bool) → Stands ws room s → set_at (row ++ take (words_needed room) ws) (length row) room ≡ s
unfolding set_at
set_at-end row ws room s h =
    let more = row ++ take (words_needed room) ws in
    those-ext room (λ k. bit more (64 * length row + k)) (bit ws) (λ k below.
    let inside : k / 64 < words_needed room = omega arith in
    bit_from more (length row) k
    ∙ ap (λ n. digit n (k % 64)) (get_or-append-add row (take (words_needed room) ws) (k / 64) 0 ∙ get_or-take (words_needed room) ws (k / 64) 0 inside)
    ∙ sym (bit_digit ws k))
    ∙ set_from ws room s h

-- a set at a place has the room that it is read with
pub length-set_at : (row : List ℕ) (place room : ℕ) → length (set_at row place room) ≡ room
unfolding set_at
length-set_at row place room = length-those room (λ k. bit row (64 * place + k))
