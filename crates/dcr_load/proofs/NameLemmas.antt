-- A letter and a number are a name, and no two numbers make one.
use Rattle.std.proofs.Common.{◌≡◌, ℕ, ◌<◌, ◌≤◌, ◌^◌, true, ◌&&◌, ◌||◌, List, [], ◌∷◌, length, get_or, decimal, eqb, nat_le, ap, ◌∙◌, arith}
use Rattle.std.specs.List.{list_all}
use Rattle.std.specs.Str.{bytes_eq}
use Rattle.std.proofs.lemmas.Fmt.{decimal_injective, decimal_is_IsNumeral, length-decimal-le}
use Rattle.std.proofs.lemmas.List.Elements.{All-from_get_or}
use Rattle.std.proofs.lemmas.Str.Parse.{digit_at}
use Rattle.std.proofs.lemmas.Bool.{and_from, le-leb, false_from_ne_true}
use Rattle.std.proofs.lemmas.List.Sums.{list_all-from_AllPass}
use Rattle.std.proofs.lemmas.Slice.Eq.{bytes_eq-Decides}
use Rattle.dcr_graph.proofs.BoolLemmas.{or_true}
use Rattle.dcr_graph.specs.Names.{is_letter, is_name_byte, is_name, AreDistinct}
use Rattle.dcr_load.specs.Each.{each_below}
use Rattle.dcr_load.proofs.EachLemmas.{length-each_below, get_or-each_below}

-- a letter and a number
abbrev pub lettered : ℕ → ℕ → List ℕ
lettered letter i = letter ∷ decimal i

digit_is_name_byte : (byte : ℕ) → 48 ≤ byte → byte ≤ 57 → is_name_byte byte ≡ true
digit_is_name_byte byte low high =
    ap (λ t. is_letter byte || (t || (eqb byte 95 || (eqb byte 45 || eqb byte 46))))
    (and_from (nat_le 48 byte) (nat_le byte 57) (le-leb 48 byte low) (le-leb byte 57 high))
    ∙ or_true (is_letter byte)

pub lettered_is_name : (letter i : ℕ) → is_letter letter ≡ true → i < 2 ^ 16 → is_name (lettered letter i) ≡ true
lettered_is_name letter i first small =
    let many = length-decimal-le 5 i (omega arith) (omega arith) (omega arith) in
    let numeral = decimal_is_IsNumeral i (omega arith) in
    and_from (is_letter letter) (nat_le (length (decimal i)) 63 && list_all is_name_byte (decimal i)) first
    (and_from (nat_le (length (decimal i)) 63) (list_all is_name_byte (decimal i)) (le-leb (length (decimal i)) 63 (omega arith))
    (list_all-from_AllPass is_name_byte (decimal i) (All-from_get_or (λ byte. is_name_byte byte ≡ true) (decimal i) 0 (λ k within.
    let digit = digit_at (decimal i) k numeral.0.1 within in digit_is_name_byte (get_or (decimal i) k 0) digit.0 digit.1))))

pub lettered_distinct : (letter n : ℕ) → n ≤ 2 ^ 16 → AreDistinct (each_below n (lettered letter))
lettered_distinct letter n small i j before within =
    let inside : j < n = (let many = length-each_below n (lettered letter) in omega arith) in
    ap (λ name. bytes_eq name (get_or (each_below n (lettered letter)) j [])) (get_or-each_below n (lettered letter) i [] (omega arith))
    ∙ ap (bytes_eq (lettered letter i)) (get_or-each_below n (lettered letter) j [] inside)
    ∙ false_from_ne_true (bytes_eq (lettered letter i) (lettered letter j)) (λ equal.
    let one = (bytes_eq-Decides (lettered letter i) (lettered letter j)).0 equal in
    let rest : decimal i ≡ decimal j = cc in
    let same = decimal_injective i j (omega arith) (omega arith) rest in
    absurd (omega arith))
