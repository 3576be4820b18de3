-- Digits, read one by one.
use Rattle.std.proofs.Common.{◌≡◌, ◌↔◌, ℕ, zero, suc, ◌+◌, ◌*◌, ◌-◌, ◌<◌, ◌≤◌, ◌^◌, List, [], ◌∷◌, decimal, drop, length, get_or, refl, sym, ap, subst, ◌∙◌, arith}
use Rattle.std.specs.Char.{digit_value}
use Rattle.std.specs.Str.Parse.{AllDigits, digits_value, digits_value_after}
use Rattle.std.proofs.lemmas.Fmt.{decimal_digit, decimal_is_IsNumeral, decimal-digits_value, first_decimal}
use Rattle.std.proofs.lemmas.List.{drop_all, drop_more}
use Rattle.std.proofs.lemmas.Str.{digit_value_digit}
use Rattle.std.proofs.lemmas.Str.Parse.{digit_from_value, numerals_by_value, tells_digits}

-- digits behind a number write no smaller one
grows : (n : ℕ) (ds : List ℕ) → n ≤ digits_value_after 10 n ds
grows n [] = omega arith
grows n (d ∷ ds) = omega (arith, grows (n * 10 + digit_value d) ds)

-- the bytes before this place are digits, and they write this number
pub record Reads (bytes : List ℕ) (at number : ℕ) : Type 0 where
  pub value : digits_value_after 10 number (drop at bytes) ≡ digits_value 10 bytes
  pub rest : AllDigits 10 bytes → AllDigits 10 (drop at bytes)
  pub whole : AllDigits 10 (drop at bytes) → AllDigits 10 bytes

pub reads_none : (bytes : List ℕ) → Reads bytes 0 0
reads_none bytes = record { value = refl; rest = λ all. all; whole = λ all. all }

module _ (bytes : List ℕ) (at number byte : ℕ) (within : at < length bytes) (is : get_or bytes at 0 ≡ byte) (reads : Reads bytes at number) where
  here : drop at bytes ≡ byte ∷ drop (at + 1) bytes
  here = drop_more bytes at 0 within ∙ ap (λ b. b ∷ drop (at + 1) bytes) is

  -- one digit more
  pub reads_more : (48 ≤ byte) × (byte ≤ 57) → Reads bytes (at + 1) (number * 10 + (byte - 48))
  reads_more digit =
      let worth = digit_value_digit byte digit in
      record {
        value =
            ap (λ d. digits_value_after 10 (number * 10 + d) (drop (at + 1) bytes)) (omega arith)
            ∙ sym (ap (digits_value_after 10 number) here) ∙ reads.value;
        rest = λ all. (subst (AllDigits 10) here (reads.rest all)).1;
        whole = λ more. reads.whole (subst (AllDigits 10) (sym here) (omega arith, more));
      }

  -- all bytes are digits and write a number that is not too large: so does the next one
  pub next_digit : AllDigits 10 bytes → digits_value 10 bytes < 2 ^ 64 → ((48 ≤ byte) × (byte ≤ 57)) × (number * 10 + (byte - 48) < 2 ^ 64)
  next_digit all small =
      let digits = subst (AllDigits 10) here (reads.rest all) in
      let digit = digit_from_value byte digits.0 in
      let worth = digit_value_digit byte digit in
      let value = sym (ap (digits_value_after 10 number) here) ∙ reads.value in
      (digit, omega (arith, grows (number * 10 + digit_value byte) (drop (at + 1) bytes)))

-- all bytes were digits
pub reads_all : (bytes : List ℕ) (at number : ℕ) → length bytes ≤ at → Reads bytes at number → AllDigits 10 bytes × (digits_value 10 bytes ≡ number)
reads_all bytes at number end reads =
    let none = drop_all at bytes end in
    (reads.whole (subst (AllDigits 10) (sym none) tt), sym reads.value ∙ ap (digits_value_after 10 number) none)

-- how the decimal form of a number begins
decimal_begins : (n : ℕ) → n < 2 ^ 64 → (0 < length (decimal n)) × (get_or (decimal n) 0 0 ≡ 48 → length (decimal n) ≡ 1)
decimal_begins zero small = let one = ap length (decimal_digit 0 (omega arith)) in (omega arith, λ _. one)
decimal_begins (suc n) small = ((decimal_is_IsNumeral (suc n) small).0.0, λ e. absurd (omega (arith, first_decimal (suc n) (omega arith) small)))

pub begins_as : (bytes : List ℕ) (n : ℕ) → n < 2 ^ 64 → bytes ≡ decimal n → (0 < length bytes) × (get_or bytes 0 0 ≡ 48 → length bytes ≡ 1)
begins_as bytes n small is = subst (λ (ds : List ℕ). (0 < length ds) × (get_or ds 0 0 ≡ 48 → length ds ≡ 1)) (sym is) (decimal_begins n small)

-- digits that begin so are a decimal form
pub digits_are : (bytes : List ℕ) (n : ℕ) → (0 < length bytes) × (get_or bytes 0 0 ≡ 48 → length bytes ≡ 1)
    → (AllDigits 10 bytes × (digits_value 10 bytes ≡ n) × (n < 2 ^ 64)) ↔ ((n < 2 ^ 64) × (bytes ≡ decimal n))
digits_are bytes n begins = (
  λ told. (told.2, sym (decimal-digits_value (numerals_by_value _ tells_digits) bytes told.0 begins.0 begins.1 (subst (λ k. k < 2 ^ 64) (sym told.1) told.2)) ∙ ap decimal told.1),
  λ told. let known = decimal_is_IsNumeral n told.0 in (subst (AllDigits 10) (sym told.1) known.0.1, ap (digits_value 10) told.1 ∙ known.1, told.0),
)
