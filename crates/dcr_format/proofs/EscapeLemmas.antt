-- How long a text is in quotes: a name is as long as it is, and each text is six times as long at most.
use Rattle.std.proofs.Common.{◌≡◌, ◌≢◌, ℕ, suc, ◌+◌, ◌*◌, ◌/◌, ◌%◌, ◌≤◌, inl, inr, Bool, true, false, cond, ◌&&◌, ◌==◌, nat_le, nat_lt, List, [], ◌∷◌, length, get_or, refl, sym, ap, ◌∙◌, arith}
use Rattle.std.specs.Char.{digit_char}
use Rattle.std.specs.List.{list_all}
use Rattle.std.proofs.lemmas.Bool.{and_parts, cases_lt, eqb-true, false≢true, leb-true}
use Rattle.std.proofs.lemmas.List.{get_or_past, length-append}
use Rattle.json.specs.Print.{escape_letter, escape_byte, escape, quoted}
use Rattle.json.proofs.Printed.Strings.{escape_byte_plain}
use Rattle.dcr_graph.specs.Names.{is_between, is_letter, is_name_byte, is_name}
use Rattle.dcr_format.specs.Texts.{AreAllNames}
use Rattle.dcr_format.proofs.NameLemmas.{either, names_short}

pub quoted_length : (s : List ℕ) → length (quoted s) ≡ 2 + length (escape s)
quoted_length s = let parts : length (quoted s) ≡ suc (length (escape s) + 1) = ap suc (length-append (escape s) (34 ∷ [])) in omega arith

-- ---- any text

either_short : (b : Bool) (n : ℕ) (xs ys : List ℕ) → length xs ≤ n → length ys ≤ n → length (cond b xs ys) ≤ n
either_short true n xs ys h k = h
either_short false n xs ys h k = k

-- a byte stands as six at most
escape_byte_short : (x : ℕ) → length (escape_byte x) ≤ 6
unfolding escape_byte
escape_byte_short x =
    either_short (nat_lt 0 (escape_letter x)) 6 (92 ∷ escape_letter x ∷ []) _ (omega arith)
    (either_short (nat_lt x 32) 6 (92 ∷ 117 ∷ 48 ∷ 48 ∷ digit_char (x / 16) ∷ digit_char (x % 16) ∷ []) (x ∷ []) (omega arith) (omega arith))

escape_short : (s : List ℕ) → length (escape s) ≤ 6 * length s
escape_short [] = omega arith
escape_short (x ∷ s) =
    let parts : length (escape (x ∷ s)) ≡ length (escape_byte x) + length (escape s) = length-append (escape_byte x) (escape s) in
    let here = escape_byte_short x in let later = escape_short s in omega arith

pub quoted_short : (s : List ℕ) → length (quoted s) ≤ 2 + 6 * length s
quoted_short s = let whole = quoted_length s in let short = escape_short s in omega arith

-- ---- names

-- no control byte, no quote and no backslash
record IsPlainByte (byte : ℕ) : Type 0 where
  least : 45 ≤ byte
  no_backslash : byte ≢ 92

plain_between : (low high byte : ℕ) → is_between low high byte ≡ true → (low ≤ byte) × (byte ≤ high)
plain_between low high byte e = let p = and_parts (nat_le low byte) (nat_le byte high) e in (leb-true low byte p.0, leb-true byte high p.1)

plain_letter : (byte : ℕ) → is_letter byte ≡ true → IsPlainByte byte
plain_letter byte e = elim (either (is_between 65 90 byte) (is_between 97 122 byte) e) [
  | inl upper ↦ (let p = plain_between 65 90 byte upper in let low = p.0 in let high = p.1 in record { least = omega arith; no_backslash = λ is. omega arith })
  | inr lower ↦ (let p = plain_between 97 122 byte lower in let low = p.0 in record { least = omega arith; no_backslash = λ is. omega arith })
]

plain_one : (n byte : ℕ) → 45 ≤ n → n ≢ 92 → (byte == n) ≡ true → IsPlainByte byte
plain_one n byte low other e = let is : byte ≡ n = eqb-true byte n e in record { least = omega arith; no_backslash = λ same. other (sym is ∙ same) }

plain_name_byte : (byte : ℕ) → is_name_byte byte ≡ true → IsPlainByte byte
plain_name_byte byte e = elim (either (is_letter byte) _ e) [
  | inl letter ↦ plain_letter byte letter
  | inr other ↦ elim (either (is_between 48 57 byte) _ other) [
    | inl digit ↦ (let p = plain_between 48 57 byte digit in let low = p.0 in let high = p.1 in record { least = omega arith; no_backslash = λ is. omega arith })
    | inr mark ↦ elim (either (byte == 95) _ mark) [
      | inl is ↦ plain_one 95 byte (omega arith) (λ e. omega arith) is
      | inr rest ↦ elim (either (byte == 45) (byte == 46) rest) [
        | inl is ↦ plain_one 45 byte (omega arith) (λ e. omega arith) is
        | inr is ↦ plain_one 46 byte (omega arith) (λ e. omega arith) is
      ]
    ]
  ]
]

byte_plain : (byte : ℕ) → IsPlainByte byte → escape_byte byte ≡ byte ∷ []
byte_plain byte is = let low = is.least in escape_byte_plain byte (λ e. omega arith) is.no_backslash (omega arith)

escape_plain : (x : ℕ) (text : List ℕ) → IsPlainByte x → length (escape text) ≡ length text → length (escape (x ∷ text)) ≡ length (x ∷ text)
escape_plain x text is rest =
    let parts : length (escape (x ∷ text)) ≡ length (escape_byte x) + length (escape text) = length-append (escape_byte x) (escape text) in
    let one : length (escape_byte x) ≡ 1 = ap (λ (bytes : List ℕ). length bytes) (byte_plain x is) in omega arith

-- name bytes stand as they are
escape_bytes : (text : List ℕ) → list_all is_name_byte text ≡ true → length (escape text) ≡ length text
escape_bytes [] e = refl
escape_bytes (x ∷ text) e = let p = and_parts (is_name_byte x) (list_all is_name_byte text) e in escape_plain x text (plain_name_byte x p.0) (escape_bytes text p.1)

-- a word of name bytes, such as a key
pub quoted_word : (text : List ℕ) → list_all is_name_byte text ≡ true → length (quoted text) ≡ 2 + length text
quoted_word text e = let whole = quoted_length text in let same = escape_bytes text e in omega arith

escape_name : (name : List ℕ) → is_name name ≡ true → length (escape name) ≡ length name
escape_name [] e = absurd (false≢true e)
escape_name (x ∷ text) e =
    let p = and_parts (is_letter x) (nat_le (length text) 63 && list_all is_name_byte text) e in
    let q = and_parts (nat_le (length text) 63) (list_all is_name_byte text) p.1 in
    escape_plain x text (plain_letter x p.0) (escape_bytes text q.1)

-- the name with any number, which is empty where there is none
pub escape_any : (names : List (List ℕ)) → AreAllNames names → (x : ℕ) → length (escape (get_or names x [])) ≤ 64
escape_any names are x = elim (cases_lt x (length names)) [
  | inl within ↦ (let plain = escape_name (get_or names x []) (are x [] within) in let few = names_short names are x in omega arith)
  | inr past ↦ (let none : length (escape (get_or names x [])) ≡ 0 = ap (λ (name : List ℕ). length (escape name)) (get_or_past names x [] past) in omega arith)
]

pub quoted_any : (names : List (List ℕ)) → AreAllNames names → (x : ℕ) → length (quoted (get_or names x [])) ≤ 66
quoted_any names are x = let whole = quoted_length (get_or names x []) in let few = escape_any names are x in omega arith
