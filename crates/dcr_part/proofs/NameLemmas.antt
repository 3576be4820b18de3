-- Names that may be told, and those that stand in for others.
use Rattle.std.proofs.Common.{◌≡◌, ℕ, ◌<◌, ◌≤◌, ◌^◌, Bool, true, false, ◌||◌, nat_le, eqb, List, [], length, get_or, map, decimal, Option, None, is_some, sym, ap, ◌∙◌, arith}
use Rattle.std.specs.List.{list_all, range_with_len}
use Rattle.std.specs.Str.{bytes_eq}
use Rattle.std.proofs.lemmas.Bool.{and_from, false≢true, false_from_ne_true, le-leb}
use Rattle.std.proofs.lemmas.Fmt.{decimal_injective, decimal_is_IsNumeral, length-decimal-le}
use Rattle.std.proofs.lemmas.List.{get_or_read}
use Rattle.std.proofs.lemmas.List.Elements.{All-from_get_or}
use Rattle.std.proofs.lemmas.List.FromFn.{get_or-map-range_with_len, length-map-range_with_len}
use Rattle.std.proofs.lemmas.List.Sums.{list_all-from_AllPass}
use Rattle.std.proofs.lemmas.Slice.Eq.{bytes_eq-Decides}
use Rattle.std.proofs.lemmas.Str.Parse.{digit_at}
use Rattle.dcr_set.specs.Least.{some_below}
use Rattle.dcr_set.proofs.LeastLemmas.{least-none_from, some_below-at, some_below-from}
use Rattle.dcr_graph.specs.Names.{is_letter, is_name_byte, is_name, AreDistinct}
use Rattle.dcr_graph.proofs.BoolLemmas.{or_true}
use Rattle.dcr_part.specs.Read.{stand_in}
use Rattle.dcr_part.specs.Told.{are_one, is_text, AreDistinct as AreAllDistinct}

-- what a name that was read is
pub text_seen : (names : List (Option (List ℕ))) (k : ℕ) (o : Option (List ℕ)) (text name : List ℕ) (b : Bool) → k < length names → o ≡ get_or names k o → text ≡ name → b ≡ is_text o text
    → is_text (get_or names k None) name ≡ b
text_seen names k o text name b within is same told = ap (λ x. is_text x name) (sym (get_or_read names k o within is None)) ∙ ap (is_text o) (sym same) ∙ sym told

-- a digit may stand in a name
digit_in_name : (byte : ℕ) → 48 ≤ byte → byte ≤ 57 → is_name_byte byte ≡ true
digit_in_name byte low high =
    ap (λ t. is_letter byte || (t || (eqb byte 95 || (eqb byte 45 || eqb byte 46)))) (and_from (nat_le 48 byte) (nat_le byte 57) (le-leb 48 byte low) (le-leb byte 57 high))
    ∙ or_true (is_letter byte)

pub stand_in_is_name : (number : ℕ) → number < 2 ^ 16 → is_name (stand_in number) ≡ true
stand_in_is_name number small =
    let many = length-decimal-le 5 number (omega arith) (omega arith) (omega arith) in
    let numeral = decimal_is_IsNumeral number (omega arith) in
    and_from (nat_le (length (decimal number)) 63) (list_all is_name_byte (decimal number)) (le-leb (length (decimal number)) 63 (omega arith))
    (list_all-from_AllPass is_name_byte (decimal number) (All-from_get_or (λ byte. is_name_byte byte ≡ true) (decimal number) 0 (λ k within.
    let digit = digit_at (decimal number) k numeral.0.1 within in digit_in_name (get_or (decimal number) k 0) digit.0 digit.1)))

pub stand_ins_distinct : (n : ℕ) → n ≤ 2 ^ 16 → AreDistinct (map stand_in (range_with_len 0 n))
stand_ins_distinct n small i j before within =
    let many = length-map-range_with_len stand_in 0 n in
    let inside : j < n = omega arith in
    ap (λ name. bytes_eq name (get_or (map stand_in (range_with_len 0 n)) j [])) (get_or-map-range_with_len stand_in 0 n i i [] (omega arith) (omega arith))
    ∙ ap (bytes_eq (stand_in i)) (get_or-map-range_with_len stand_in 0 n j j [] inside (omega arith))
    ∙ false_from_ne_true (bytes_eq (stand_in i) (stand_in j)) (λ equal.
    let one = (bytes_eq-Decides (stand_in i) (stand_in j)).0 equal in
    let rest : decimal i ≡ decimal j = cc in
    let same = decimal_injective i j (omega arith) (omega arith) rest in
    absurd (omega arith))

-- ---- names that are one

-- an event with no name has no other's
pub none_repeated : (names : List (Option (List ℕ))) (i : ℕ) → get_or names i None ≡ None → some_below i (λ k. are_one (get_or names k None) (get_or names i None)) ≡ false
none_repeated names i none = ap is_some (least-none_from i (λ k. are_one (get_or names k None) (get_or names i None)) (λ k below. ap (are_one (get_or names k None)) none))

-- where names are distinct none is an earlier one
pub is_one : (names : List (Option (List ℕ))) (i : ℕ) → some_below i (λ k. are_one (get_or names k None) (get_or names i None)) ≡ true → i < length names → AreAllDistinct names → ⊥
is_one names i some within distinct =
    let found = some_below-from i (λ k. are_one (get_or names k None) (get_or names i None)) some in
    false≢true (sym (distinct found.0 i found.1 within) ∙ found.2)

pub is_none : (names : List (Option (List ℕ))) (i : ℕ) → some_below i (λ k. are_one (get_or names k None) (get_or names i None)) ≡ false
    → (k : ℕ) → k < i → are_one (get_or names k None) (get_or names i None) ≡ false
is_none names i none k before =
    false_from_ne_true (are_one (get_or names k None) (get_or names i None)) (λ one.
    false≢true (sym none ∙ some_below-at i (λ j. are_one (get_or names j None) (get_or names i None)) k before one))
