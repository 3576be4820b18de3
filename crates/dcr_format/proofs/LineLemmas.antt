-- The compact text of a value holds no line end: JSON escapes it in strings, and no other part of a text has one.
use Rattle.std.proofs.Common.{◌≡◌, ◌≢◌, ℕ, zero, suc, ◌+◌, ◌/◌, ◌%◌, ◌==◌, ◌||◌, nat_lt, pos, negsuc, Bool, true, false, cond, List, [], ◌∷◌, ◌++◌, decimal, refl, sym, ap, ◌∙◌, arith}
use Rattle.std.specs.Char.{digit_char}
use Rattle.std.specs.Fmt.{digit_glyph, digits_onto, digits}
use Rattle.std.specs.List.{AllByRecursion}
use Rattle.std.proofs.lemmas.Bool.{true≢false, false≢true}
use Rattle.std.proofs.lemmas.List.Elements.{All-from_recursion}
use Rattle.json.specs.Print.{escape_letter, escape_byte, escape, quoted, token_text}
use Rattle.json.specs.Token.{Token}
use Rattle.serde_json.specs.Data.{Num, unsigned, negative, float, Data, null, boolean, number, string, array, object, Items, no_items, item, Members, no_members, member}
use Rattle.serde_json.specs.Written.{number_text, comma_if, compact_text, items_text, members_text}
use Rattle.dcr_format.specs.Texts.{IsOneLine}

abbrev IsWithin : ℕ → Type 0
IsWithin byte = byte ≢ 10

-- a part of a line
abbrev IsPart : List ℕ → Type 0
IsPart text = AllByRecursion IsWithin text

both : (xs ys : List ℕ) → IsPart xs → IsPart ys → IsPart (xs ++ ys)
both [] ys h k = k
both (x ∷ xs) ys h k = (h.0, both xs ys h.1 k)

either : (b : Bool) (x y : ℕ) → (b ≡ true → IsWithin x) → (b ≡ false → IsWithin y) → IsWithin (cond b x y)
either true x y h k = h refl
either false x y h k = k refl

either_part : (b : Bool) (xs ys : List ℕ) → (b ≡ true → IsPart xs) → (b ≡ false → IsPart ys) → IsPart (cond b xs ys)
either_part true xs ys h k = h refl
either_part false xs ys h k = k refl

-- ---- strings

letter : (x : ℕ) → IsWithin (escape_letter x)
letter x =
    either ((x == 34) || (x == 92)) x _ (λ is e. false≢true (ap (λ y. (y == 34) || (y == 92)) (sym e) ∙ is))
    (λ _. either (x == 8) 98 _ (λ _ e. omega arith)
    (λ _. either (x == 12) 102 _ (λ _ e. omega arith)
    (λ _. either (x == 10) 110 _ (λ _ e. omega arith)
    (λ _. either (x == 13) 114 _ (λ _ e. omega arith)
    (λ _. either (x == 9) 116 0 (λ _ e. omega arith) (λ _ e. omega arith))))))

hex : (d : ℕ) → IsWithin (digit_char d)
hex d = either (nat_lt d 10) (48 + d) (87 + d) (λ _ e. omega arith) (λ _ e. omega arith)

escaped : (x : ℕ) → IsPart (escape_byte x)
unfolding escape_byte
escaped x =
    either_part (nat_lt 0 (escape_letter x)) (92 ∷ escape_letter x ∷ []) _ (λ _. (λ e. omega arith, (letter x, tt)))
    (λ _. either_part (nat_lt x 32) (92 ∷ 117 ∷ 48 ∷ 48 ∷ digit_char (x / 16) ∷ digit_char (x % 16) ∷ []) (x ∷ [])
    (λ _. (λ e. omega arith, (λ e. omega arith, (λ e. omega arith, (λ e. omega arith, (hex (x / 16), (hex (x % 16), tt)))))))
    (λ large. (λ e. true≢false (ap (λ y. nat_lt y 32) (sym e) ∙ large), tt)))

escaped_text : (s : List ℕ) → IsPart (escape s)
escaped_text [] = tt
escaped_text (x ∷ s) = both (escape_byte x) (escape s) (escaped x) (escaped_text s)

quoted_text : (s : List ℕ) → IsPart (quoted s)
quoted_text s = (λ e. omega arith, both (escape s) (34 ∷ []) (escaped_text s) (λ e. omega arith, tt))

-- ---- numbers and truth values

glyph : (d : ℕ) → IsWithin (digit_glyph false d)
glyph d = either (nat_lt d 10) (48 + d) (87 + d) (λ _ e. omega arith) (λ _ e. omega arith)

digits_text : (k n : ℕ) (after : List ℕ) → IsPart after → IsPart (digits_onto k 10 false n after)
digits_text zero n after h = h
digits_text (suc k) n after h =
    let d = digit_glyph false (n % 10) in
    let longer : IsPart (d ∷ after) = (glyph (n % 10), h) in
    either_part (n / 10 == 0) (d ∷ after) (digits_onto k 10 false (n / 10) (d ∷ after)) (λ _. longer) (λ _. digits_text k (n / 10) (d ∷ after) longer)

decimal_text : (n : ℕ) → IsPart (decimal n)
unfolding digits
decimal_text n = digits_text 64 n [] tt

number_part : (n : Num) → IsPart (number_text n)
number_part (unsigned n) = decimal_text n
number_part (negative (pos n)) = decimal_text n
number_part (negative (negsuc n)) = (λ e. omega arith, decimal_text (suc n))
number_part (float x) = tt

boolean_part : (b : Bool) → IsPart (token_text (Token.boolean b))
boolean_part true = (λ e. omega arith, (λ e. omega arith, (λ e. omega arith, (λ e. omega arith, tt))))
boolean_part false = (λ e. omega arith, (λ e. omega arith, (λ e. omega arith, (λ e. omega arith, (λ e. omega arith, tt)))))

comma_part : (later : Bool) → IsPart (comma_if later)
comma_part true = (λ e. omega arith, tt)
comma_part false = tt

-- ---- values

mutual
  value_part : (d : Data) → IsPart (compact_text d)
  value_part null = (λ e. omega arith, (λ e. omega arith, (λ e. omega arith, (λ e. omega arith, tt))))
  value_part (boolean b) = boolean_part b
  value_part (number n) = number_part n
  value_part (string s) = quoted_text s
  value_part (array ds) = (λ e. omega arith, items_part false ds)
  value_part (object ms) = (λ e. omega arith, members_part false ms)

  items_part : (later : Bool) (ds : Items) → IsPart (items_text later ds)
  items_part later no_items = (λ e. omega arith, tt)
  items_part later (item d ds) =
      both (comma_if later) (compact_text d ++ items_text true ds) (comma_part later) (both (compact_text d) (items_text true ds) (value_part d) (items_part true ds))

  members_part : (later : Bool) (ms : Members) → IsPart (members_text later ms)
  members_part later no_members = (λ e. omega arith, tt)
  members_part later (member k d ms) =
      both (comma_if later) (quoted k ++ 58 ∷ (compact_text d ++ members_text true ms)) (comma_part later)
      (both (quoted k) (58 ∷ (compact_text d ++ members_text true ms)) (quoted_text k)
      (λ e. omega arith, both (compact_text d) (members_text true ms) (value_part d) (members_part true ms)))

pub one_line : (d : Data) → IsOneLine (compact_text d)
one_line d = All-from_recursion IsWithin (compact_text d) (value_part d)
