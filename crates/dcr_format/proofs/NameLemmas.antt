-- Names are short, and ASCII, and so UTF-8.
use Rattle.std.proofs.Common.{◌≡◌, ℕ, ◌<◌, ◌≤◌, ◌⊎◌, inl, inr, Bool, true, false, ◌&&◌, ◌||◌, nat_le, nat_lt, List, [], ◌∷◌, length, get_or, IsUtf8, refl, ap, arith}
use Rattle.std.specs.List.{All, list_all}
use Rattle.std.proofs.lemmas.Bool.{and_parts, cases_lt, eqb-true, false≢true, leb-true, lt-ltb}
use Rattle.std.proofs.lemmas.List.{get_or_past}
use Rattle.std.proofs.lemmas.List.Elements.{All-weaker}
use Rattle.json.proofs.Printed.Utf8.{are_ascii, IsUtf8-are_ascii}
use Rattle.dcr_graph.specs.Names.{is_between, is_letter, is_name_byte, is_name}
use Rattle.dcr_format.specs.Texts.{AreAllNames}

pub either : (a b : Bool) → (a || b) ≡ true → (a ≡ true) ⊎ (b ≡ true)
either true b e = inl refl
either false b e = inr e

both : (a b : Bool) → a ≡ true → b ≡ true → (a && b) ≡ true
both true b e f = f
both false b e f = e

between_low : (low high byte : ℕ) → high < 128 → is_between low high byte ≡ true → byte < 128
between_low low high byte few e = let below : byte ≤ high = leb-true byte high (and_parts (nat_le low byte) (nat_le byte high) e).1 in omega arith

letter_low : (byte : ℕ) → is_letter byte ≡ true → byte < 128
letter_low byte e = elim (either (is_between 65 90 byte) (is_between 97 122 byte) e) [
  | inl upper ↦ between_low 65 90 byte (omega arith) upper
  | inr lower ↦ between_low 97 122 byte (omega arith) lower
]

-- one byte of three
mark_low : (byte : ℕ) (a b c : Bool) → (a ≡ true → byte < 128) → (b ≡ true → byte < 128) → (c ≡ true → byte < 128) → (a || (b || c)) ≡ true → byte < 128
mark_low byte true b c f g h e = f refl
mark_low byte false true c f g h e = g refl
mark_low byte false false c f g h e = h e

name_byte_low : (byte : ℕ) → is_name_byte byte ≡ true → byte < 128
name_byte_low byte e = elim (either (is_letter byte) _ e) [
  | inl letter ↦ letter_low byte letter
  | inr other ↦ elim (either (is_between 48 57 byte) _ other) [
    | inl digit ↦ between_low 48 57 byte (omega arith) digit
    | inr mark ↦ mark_low byte _ _ _
        (λ h. let is = eqb-true byte 95 h in omega arith) (λ h. let is = eqb-true byte 45 h in omega arith) (λ h. let is = eqb-true byte 46 h in omega arith) mark
  ]
]

all_low : (text : List ℕ) → list_all is_name_byte text ≡ true → are_ascii text ≡ true
all_low [] e = refl
all_low (x ∷ text) e = let p = and_parts (is_name_byte x) (list_all is_name_byte text) e in both (nat_lt x 128) (are_ascii text) (lt-ltb x 128 (name_byte_low x p.0)) (all_low text p.1)

name_utf8 : (name : List ℕ) → is_name name ≡ true → IsUtf8 name
name_utf8 [] e = absurd (false≢true e)
name_utf8 (x ∷ text) e =
    let p = and_parts (is_letter x) (nat_le (length text) 63 && list_all is_name_byte text) e in
    let q = and_parts (nat_le (length text) 63) (list_all is_name_byte text) p.1 in
    IsUtf8-are_ascii (x ∷ text) (both (nat_lt x 128) (are_ascii text) (lt-ltb x 128 (letter_low x p.0)) (all_low text q.1))

name_short : (name : List ℕ) → is_name name ≡ true → length name ≤ 64
name_short [] e = absurd (false≢true e)
name_short (x ∷ text) e =
    let p = and_parts (is_letter x) (nat_le (length text) 63 && list_all is_name_byte text) e in
    let q = and_parts (nat_le (length text) 63) (list_all is_name_byte text) p.1 in
    let few : length text ≤ 63 = leb-true (length text) 63 q.0 in omega arith

pub names_utf8 : (names : List (List ℕ)) → AreAllNames names → All IsUtf8 names
names_utf8 names are = All-weaker (λ name. is_name name ≡ true) IsUtf8 name_utf8 names are

-- the name with any number, which is empty where there is none
pub names_short : (names : List (List ℕ)) → AreAllNames names → (x : ℕ) → length (get_or names x []) ≤ 64
names_short names are x = elim (cases_lt x (length names)) [
  | inl within ↦ name_short (get_or names x []) (are x [] within)
  | inr past ↦ (let none : length (get_or names x []) ≡ 0 = ap (λ (name : List ℕ). length name) (get_or_past names x [] past) in omega arith)
]
