-- When bytes that are crossed, and gathered bit by bit, are none.
use Rattle.std.proofs.Common.{◌≡◌, ℕ, ◌+◌, ◌%◌, ◌<◌, sym, ap, ◌∙◌, arith}
use Rattle.std.specs.Int.{bit_at}
use Rattle.std.specs.Prelude.{bit_or, bit_xor}
use Rattle.std.specs.Int.Bits.{xor_self}
use Rattle.std.proofs.lemmas.Nat.Bits.{bit_at-zero, bit_at_or, bit_at_xor, same_from_bits}

-- a bit is 0 or 1
bit_at_small : (n i : ℕ) → bit_at n i < 2
bit_at_small n i = omega arith

-- nothing gathered: nothing had come, and nothing came
pub none_gathered : (a b : ℕ) → bit_or a b ≡ 0 → (a ≡ 0) × (b ≡ 0)
none_gathered a b none = (
  same_from_bits a 0 (λ i. let e = sym (bit_at_or a b i) ∙ ap (λ n. bit_at n i) none ∙ bit_at-zero i in let z = bit_at-zero i in omega (arith, e, z)),
  same_from_bits b 0 (λ i. let e = sym (bit_at_or a b i) ∙ ap (λ n. bit_at n i) none ∙ bit_at-zero i in let z = bit_at-zero i in omega (arith, e, z)),
)

-- two bits that add up to an even number are the same
odd_or_even : (p q : ℕ) → (p + q) % 2 ≡ 0 → p < 2 → q < 2 → p ≡ q
odd_or_even p q e hp hq = omega (arith, e, hp, hq)

-- two numbers whose crossing is nothing are the same
pub same_crossed : (a b : ℕ) → bit_xor a b ≡ 0 → a ≡ b
same_crossed a b none = same_from_bits a b (λ i.
    let e = sym (bit_at_xor a b i) ∙ ap (λ n. bit_at n i) none ∙ bit_at-zero i in
    let p = bit_at_small a i in
    let q = bit_at_small b i in
    odd_or_even (bit_at a i) (bit_at b i) e p q)

-- one more place: all is the same up to there exactly where nothing was gathered
pub gathered_more : (gathered a b : ℕ) → (bit_or gathered (bit_xor a b) ≡ 0 → (gathered ≡ 0) × (a ≡ b)) × ((gathered ≡ 0) × (a ≡ b) → bit_or gathered (bit_xor a b) ≡ 0)
gathered_more gathered a b = (
  λ none. let both = none_gathered gathered (bit_xor a b) none in (both.0, same_crossed a b both.1),
  λ both. ap (λ n. bit_or n (bit_xor a b)) both.0 ∙ ap (λ n. bit_or 0 (bit_xor n b)) both.1 ∙ ap (bit_or 0) (xor_self b),
)
