-- Numbers of 32 bits and their decimal forms.
use Rattle.std.proofs.Common.{◌≡◌, ℕ, ◌<◌, ◌≤◌, ◌^◌, true, List, [], ◌∷◌, Some, None, decimal, refl, sym, ◌∙◌, arith}
use Rattle.std.specs.List.{All}
use Rattle.std.specs.Str.{bytes_eq}
use Rattle.std.proofs.lemmas.Bool.{false_from_ne_true, ne_eqb}
use Rattle.std.proofs.lemmas.Fmt.{decimal_injective, decimal_is_IsNumeral}
use Rattle.std.proofs.lemmas.List.Elements.{All-from_get_or, All-head, All-tail}
use Rattle.std.proofs.lemmas.Slice.Eq.{bytes_eq-Decides}
use Rattle.std.proofs.lemmas.Str.Parse.{digit_at}
use Rattle.dcr_set.proofs.LeastLemmas.{least-from, least-none_from, least-some}
use Rattle.dcr_line.specs.EntryLine.{number_in}
use Rattle.dcr_line.proofs.PiecesLemmas.{lacks}

-- what is read has 32 bits, and the text is its decimal form
pub number_told : (text : List ℕ) (n : ℕ) → number_in text ≡ Some n → (n < 2 ^ 32) × (text ≡ decimal n)
unfolding number_in
number_told text n e =
    let is = least-some (2 ^ 32) (λ k. bytes_eq (decimal k) text) n e in
    (is.below, sym ((bytes_eq-Decides (decimal n) text).0 is.passes))

-- the decimal form is read as the number
pub number_read : (text : List ℕ) (n : ℕ) → n < 2 ^ 32 → text ≡ decimal n → number_in text ≡ Some n
unfolding number_in
number_read text n small e = least-from (2 ^ 32) (λ k. bytes_eq (decimal k) text) n (record {
  below = small;
  passes = (bytes_eq-Decides (decimal n) text).1 (sym e);
  none_before = λ j before. false_from_ne_true _ (λ same.
      let one : j ≡ n = decimal_injective j n (omega arith) (omega arith) ((bytes_eq-Decides (decimal j) text).0 same ∙ e) in
      absurd (omega arith));
})

-- a text that is the decimal form of no such number is read as none
pub number_none : (text : List ℕ) → ((n : ℕ) → n < 2 ^ 32 → text ≡ decimal n → ⊥) → number_in text ≡ None
unfolding number_in
number_none text none = least-none_from (2 ^ 32) (λ k. bytes_eq (decimal k) text) (λ n small.
    false_from_ne_true _ (λ same. none n small (sym ((bytes_eq-Decides (decimal n) text).0 same))))

digits_lack : (separator : ℕ) (text : List ℕ) → separator < 48 → All (λ byte. 48 ≤ byte) text → lacks separator text ≡ true
digits_lack separator [] low digits = refl
digits_lack separator (b ∷ bs) low digits =
    let digit = All-head (λ byte. 48 ≤ byte) b bs digits in
    rw (ne_eqb b separator (λ same. absurd (omega arith))) (digits_lack separator bs low (All-tail (λ byte. 48 ≤ byte) b bs digits))

-- a byte below the digits is not in the form of a number
pub decimal_lacks : (separator n : ℕ) → separator < 48 → n < 2 ^ 32 → lacks separator (decimal n) ≡ true
decimal_lacks separator n low small = digits_lack separator (decimal n) low (All-from_get_or (λ byte. 48 ≤ byte) (decimal n) 0
    (λ k within. (digit_at (decimal n) k (decimal_is_IsNumeral n (omega arith)).0.1 within).0))
