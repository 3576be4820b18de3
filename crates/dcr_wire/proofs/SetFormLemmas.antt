-- The bits of a set's bytes: one byte written, a byte of eight bits, and a set read bit by bit.
use Rattle.std.proofs.Common.{◌≡◌, ◌⊎◌, ℕ, ◌+◌, ◌*◌, ◌/◌, ◌%◌, ◌^◌, ◌<◌, ◌≤◌, true, false, ◌||◌, eqb, List, length, get_or, set, take, inl, inr, refl, sym, ap, ◌∙◌, arith, length-set}
use Rattle.std.specs.Prelude.{bit_and, bit_or}
use Rattle.std.specs.Int.{w8}
use Rattle.std.proofs.lemmas.Bool.{cases_lt, cases_eq, eq-eqb, ne_eqb, false≢true}
use Rattle.std.proofs.lemmas.List.{get_or-set_same, get_or-set_other, get_or-take, ext_get_or, length-take-le}
use Rattle.std.proofs.lemmas.Nat.Bits.{bit_at_set_same, bit_at_set_other, shr_and_one}
use Rattle.dcr_set.specs.EventSet.{Set, has, those, with_event}
use Rattle.dcr_set.proofs.BitLemmas.{digit, digit-zero}
use Rattle.dcr_set.proofs.SetLemmas.{has-those, has_past, has_past-those, those-ext, those-has}
use Rattle.dcr_wire.specs.SetForm.{bit_from, HasSet}

-- event k is a digit of its byte
pub bit_is : (bytes : List ℕ) (place k : ℕ) → bit_from bytes place k ≡ digit (get_or bytes (place + k / 8) 0) (k % 8)
unfolding bit_from
bit_is bytes place k = refl

-- the test of one bit
pub bit_tested : (bytes : List ℕ) (place k word low : ℕ) → word ≡ k / 8 → low ≡ k % 8 → eqb (bit_and (get_or bytes (place + word) 0 / 2 ^ low) 1) 1 ≡ bit_from bytes place k
bit_tested bytes place k word low is_word is_low =
    ap (λ x. eqb x 1) (shr_and_one (get_or bytes (place + word) 0) low)
    ∙ ap (λ j. digit (get_or bytes (place + j) 0) low) is_word ∙ ap (digit (get_or bytes (place + k / 8) 0)) is_low ∙ sym (bit_is bytes place k)

-- one bit more of a byte
pub bit_added : (byte i : ℕ) → i < 8 → (j : ℕ) → digit (bit_or byte (1 * 2 ^ i % 2 ^ 8)) j ≡ (eqb j i || digit byte j)
bit_added byte i low j = elim (cases_eq j i) [
  | inl same ↦
      ap (λ n. digit (bit_or byte (1 * 2 ^ i % 2 ^ 8)) n) same
      ∙ ap (λ x. eqb x 1) (bit_at_set_same w8 byte i low)
      ∙ sym (ap (λ t. t || digit byte j) (eq-eqb j i same))
  | inr other ↦
      ap (λ x. eqb x 1) (bit_at_set_other w8 byte i low j other)
      ∙ sym (ap (λ t. t || digit byte j) (ne_eqb j i other))
]

-- the bits of a byte below i are an event each, and there is none from i on
pub record HasBits (byte from i : ℕ) (events : Set) : Type 0 where
  pub below : (j : ℕ) → j < i → digit byte j ≡ has events (from + j)
  pub rest : (j : ℕ) → i ≤ j → digit byte j ≡ false

pub bits_none : (from : ℕ) (events : Set) → HasBits 0 from 0 events
bits_none from events = record { below = λ j below. absurd (omega arith); rest = λ j past. digit-zero j }

pub bits_with : (byte from i : ℕ) (events : Set) → i < 8 → HasBits byte from i events → has events (from + i) ≡ true → HasBits (bit_or byte (1 * 2 ^ i % 2 ^ 8)) from (i + 1) events
bits_with byte from i events low was here = record {
  below = λ j below. bit_added byte i low j ∙ elim (cases_eq j i) [
    | inl same ↦ ap (λ t. t || digit byte j) (eq-eqb j i same) ∙ sym here ∙ ap (λ n. has events (from + n)) (sym same)
    | inr other ↦ ap (λ t. t || digit byte j) (ne_eqb j i other) ∙ was.below j (omega arith)
  ];
  rest = λ j past. bit_added byte i low j ∙ ap (λ t. t || digit byte j) (ne_eqb j i (λ same. absurd (omega arith))) ∙ was.rest j (omega arith);
}

pub bits_without : (byte from i : ℕ) (events : Set) → HasBits byte from i events → has events (from + i) ≡ false → HasBits byte from (i + 1) events
bits_without byte from i events was none = record {
  below = λ j below. elim (cases_eq j i) [
    | inl same ↦ was.rest j (omega arith) ∙ sym none ∙ ap (λ n. has events (from + n)) (sym same)
    | inr other ↦ was.below j (omega arith)
  ];
  rest = λ j past. was.rest j (omega arith);
}

-- ---- writing

-- the first bytes have their events, and those before and behind stay
pub record HasWritten (before after : List ℕ) (place number : ℕ) (events : Set) : Type 0 where
  pub len : length after ≡ 400
  pub done : (k : ℕ) → k < 8 * number → bit_from after place k ≡ has events k
  pub others : (j : ℕ) → (j < place) ⊎ (place + number ≤ j) → get_or after j 0 ≡ get_or before j 0

pub written_none : (before : List ℕ) (place : ℕ) (events : Set) → length before ≡ 400 → HasWritten before before place 0 events
written_none before place events len = record { len = len; done = λ k below. absurd (omega arith); others = λ j where_. refl }

pub written_more : (before after : List ℕ) (place number byte : ℕ) (events : Set) → HasWritten before after place number events → place + number < 400
    → ((i : ℕ) → i < 8 → digit byte i ≡ has events (8 * number + i))
    → HasWritten before (set after (place + number) byte) place (number + 1) events
written_more before after place number byte events was within here = record {
  len = length-set after (place + number) byte ∙ was.len;
  done = λ k below. elim (cases_eq (k / 8) number) [
    | inl same ↦
        bit_is (set after (place + number) byte) place k
        ∙ ap (λ n. digit (get_or (set after (place + number) byte) (place + n) 0) (k % 8)) same
        ∙ ap (λ n. digit n (k % 8)) (get_or-set_same after (place + number) byte 0 (let len = was.len in omega arith))
        ∙ here (k % 8) (omega arith)
        ∙ ap (has events) (let at : 8 * number + k % 8 ≡ k = omega arith in at)
    | inr other ↦
        bit_is (set after (place + number) byte) place k
        ∙ ap (λ n. digit n (k % 8)) (get_or-set_other after (place + number) (place + k / 8) byte 0 (λ same. other (omega arith)))
        ∙ sym (bit_is after place k)
        ∙ was.done k (omega arith)
  ];
  others = λ j beside. get_or-set_other after (place + number) j byte 0 (differs j beside) ∙ was.others j (wider j beside);
}
  where
    differs : (j : ℕ) → (j < place) ⊎ (place + (number + 1) ≤ j) → j ≡ place + number → ⊥
    differs j (inl before_) same = absurd (omega arith)
    differs j (inr behind) same = absurd (omega arith)

    wider : (j : ℕ) → (j < place) ⊎ (place + (number + 1) ≤ j) → (j < place) ⊎ (place + number ≤ j)
    wider j (inl before_) = inl before_
    wider j (inr behind) = inr (omega arith)

-- bytes that are the same there have the same set
pub set_kept : (before after : List ℕ) (place : ℕ) (events : Set) → HasSet before place events → ((j : ℕ) → place ≤ j → j < place + 128 → get_or after j 0 ≡ get_or before j 0) → HasSet after place events
set_kept before after place events was same = record {
  most = was.most;
  bits = λ k below.
      bit_is after place k
      ∙ ap (λ n. digit n (k % 8)) (same (place + k / 8) (omega arith) (omega arith))
      ∙ sym (bit_is before place k)
      ∙ was.bits k below;
}

-- and the same front
pub front_kept : (before after : List ℕ) → length before ≡ 400 → length after ≡ 400 → ((j : ℕ) → j < 16 → get_or after j 0 ≡ get_or before j 0) → take 16 after ≡ take 16 before
front_kept before after long_before long_after same =
    let first : length (take 16 after) ≡ 16 = length-take-le 16 after (omega arith) in
    let second : length (take 16 before) ≡ 16 = length-take-le 16 before (omega arith) in
    ext_get_or 0 (take 16 after) (take 16 before) (first ∙ sym second) (λ j below.
    let within : j < 16 = omega arith in
    get_or-take 16 after j 0 within ∙ same j within ∙ sym (get_or-take 16 before j 0 within))

-- the front that was written
pub front_is : (bytes head : List ℕ) → length bytes ≡ 400 → length head ≡ 16 → ((j : ℕ) → j < 16 → get_or bytes j 0 ≡ get_or head j 0) → take 16 bytes ≡ head
front_is bytes head long_bytes long_head same =
    let first : length (take 16 bytes) ≡ 16 = length-take-le 16 bytes (omega arith) in
    ext_get_or 0 (take 16 bytes) head (first ∙ sym long_head) (λ j below.
    let within : j < 16 = omega arith in
    get_or-take 16 bytes j 0 within ∙ same j within)

-- ---- reading

-- a set has the events of the bytes below a number, and none from there on
pub record HasRead (bytes : List ℕ) (place number : ℕ) (events : Set) : Type 0 where
  pub below : (k : ℕ) → k < number → has events k ≡ bit_from bytes place k
  pub rest : (k : ℕ) → number ≤ k → has events k ≡ false

pub read_none : (bytes : List ℕ) (place room : ℕ) (events : Set) → events ≡ those room (λ _. false) → HasRead bytes place 0 events
read_none bytes place room events is = record { below = λ k below. absurd (omega arith); rest = λ k past. ap (λ s. has s k) is ∙ nothing k }
  where
    nothing : (k : ℕ) → has (those room (λ _. false)) k ≡ false
    nothing k = elim (cases_lt k room) [
      | inl below ↦ has-those room (λ _. false) k below
      | inr past ↦ has_past-those room (λ _. false) k past
    ]

-- an event more
inserted : (events : Set) (e : ℕ) → e < length events → (k : ℕ) → has (with_event events e) k ≡ (eqb k e || has events k)
inserted events e within k = elim (cases_lt k (length events)) [
  | inl below ↦ has-those (length events) (λ j. eqb j e || has events j) k below
  | inr past ↦
      has_past-those (length events) (λ j. eqb j e || has events j) k past
      ∙ sym (ap (λ t. t || has events k) (ne_eqb k e (λ same. absurd (omega arith))) ∙ has_past events k past)
]

pub read_with : (bytes : List ℕ) (place number : ℕ) (events : Set) → HasRead bytes place number events → bit_from bytes place number ≡ true → number < length events
    → HasRead bytes place (number + 1) (with_event events number)
read_with bytes place number events was here within = record {
  below = λ k below. inserted events number within k ∙ elim (cases_eq k number) [
    | inl same ↦ ap (λ t. t || has events k) (eq-eqb k number same) ∙ sym here ∙ ap (bit_from bytes place) (sym same)
    | inr other ↦ ap (λ t. t || has events k) (ne_eqb k number other) ∙ was.below k (omega arith)
  ];
  rest = λ k past. inserted events number within k ∙ ap (λ t. t || has events k) (ne_eqb k number (λ same. absurd (omega arith))) ∙ was.rest k (omega arith);
}

pub read_without : (bytes : List ℕ) (place number : ℕ) (events : Set) → HasRead bytes place number events → bit_from bytes place number ≡ false → HasRead bytes place (number + 1) events
read_without bytes place number events was none = record {
  below = λ k below. elim (cases_eq k number) [
    | inl same ↦ was.rest k (omega arith) ∙ sym none ∙ ap (bit_from bytes place) (sym same)
    | inr other ↦ was.below k (omega arith)
  ];
  rest = λ k past. was.rest k (omega arith);
}

-- a set whose events were all read
pub read_all : (bytes : List ℕ) (place room number : ℕ) (events : Set) → HasRead bytes place number events → 1024 ≤ number → length events ≡ room → room ≤ 1024 → HasSet bytes place events
read_all bytes place room number events was all is most = record {
  most = omega arith;
  bits = λ k below. sym (was.below k (omega arith));
}

-- bytes with an event from the room on have no set with this room
pub no_set_beyond : (bytes : List ℕ) (place room number : ℕ) → bit_from bytes place number ≡ true → number < 1024 → room ≤ number → (events : Set) → length events ≡ room → HasSet bytes place events → ⊥
no_set_beyond bytes place room number here below past events is has_set =
    false≢true (sym (has_past events number (omega arith)) ∙ sym (has_set.bits number below) ∙ here)

-- ---- one set

-- the set that the bytes mean
pub set_means : (bytes : List ℕ) (place : ℕ) (events : Set) → HasSet bytes place events → those (length events) (bit_from bytes place) ≡ events
set_means bytes place events has_set =
    those-ext (length events) (bit_from bytes place) (has events) (λ k below. has_set.bits k (let most = has_set.most in omega arith)) ∙ those-has events
