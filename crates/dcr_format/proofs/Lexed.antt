-- The tokens of a text are no larger than the text, where a token counts what it adds to a value's size.
use Rattle.std.proofs.Common.{◌≡◌, ℕ, ◌+◌, ◌-◌, ◌≤◌, Bool, true, false, cond, ◌&&◌, ◌==◌, nat_eq, nat_lt, List, [], ◌∷◌, length, take, drop, Option, Some, None, option_and_then, refl, sym, ap, ◌∙◌, arith}
use Rattle.std.proofs.lemmas.Bool.{false≢true, eqb-true, and_parts}
use Rattle.std.proofs.lemmas.List.{length-append}
use Rattle.std.specs.Prelude.{⊤}
use Rattle.std.specs.List.{starts_with}
use Rattle.std.specs.Char.{is_digit, encode_utf8}
use Rattle.json.specs.Token.{Token}
use Rattle.json.specs.Text.{code_unit, short_escape, is_high_surrogate, is_low_surrogate, surrogate_pair, Within, plain, after_backslash, after_u, after_high, prepend, content}
use Rattle.json.specs.Ascii.{true_text, false_text, null_text}
use Rattle.json.specs.Word.{is_operator, is_space, head, ends_word, literal, number_before, after_number, word}
use Rattle.json.specs.Lex.{Lexeme, token, comma, colon, quote, backslash, operator, space, other, operator_lexeme, string_token, Mode, between, in_word, in_string, in_escape, lex_byte, lex, Place, fresh, after_value, after_comma, after_key, may_begin, begins_colon, if_allowed, place_token, punctuate, tokens}

-- what a token adds to the size of the value that it stands in
abbrev pub weight : Token → ℕ
weight Token.begin_object = 1
weight Token.end_object = 0
weight Token.begin_array = 1
weight Token.end_array = 0
weight (Token.key s) = length s
weight (Token.string s) = 1 + length s
weight (Token.number s) = 1
weight (Token.boolean b) = 1
weight Token.null = 1
weight Token.bad = 0

abbrev pub weights : List Token → ℕ
weights [] = 0
weights (t ∷ ts) = weight t + weights ts

abbrev lexeme_weight : Lexeme → ℕ
lexeme_weight (token t) = weight t
lexeme_weight comma = 0
lexeme_weight colon = 0

abbrev lexeme_weights : List Lexeme → ℕ
lexeme_weights [] = 0
lexeme_weights (l ∷ ls) = lexeme_weight l + lexeme_weights ls

-- ---- one token

light : (b : Bool) (s t : Token) → weight s ≤ 1 → weight t ≤ 1 → weight (cond b s t) ≤ 1
light true s t p q = p
light false s t p q = q

light_lexeme : (b : Bool) (s t : Lexeme) → lexeme_weight s ≤ 1 → lexeme_weight t ≤ 1 → lexeme_weight (cond b s t) ≤ 1
light_lexeme true s t p q = p
light_lexeme false s t p q = q

light_number : (text : List ℕ) (o : Option (List ℕ)) → weight (number_before text o) ≤ 1
light_number text None = omega arith
light_number text (Some rest) = light (ends_word rest) (Token.number (take (length text - length rest) text)) Token.bad (omega arith) (omega arith)

light_literal : (name : List ℕ) (t : Token) (text : List ℕ) → weight t ≤ 1 → weight (literal name t text) ≤ 1
light_literal name t text h = light (starts_with nat_eq text name && ends_word (drop (length name) text)) t Token.bad h (omega arith)

light_word : (text : List ℕ) → weight (word text) ≤ 1
unfolding word
light_word text =
    light (head text == 116) _ _ (light_literal true_text (Token.boolean true) text (omega arith))
    (light (head text == 102) _ _ (light_literal false_text (Token.boolean false) text (omega arith))
    (light (head text == 110) _ _ (light_literal null_text Token.null text (omega arith)) (light_number text (after_number text))))

light_operator : (x : ℕ) → lexeme_weight (operator_lexeme x) ≤ 1
light_operator x =
    light_lexeme (x == 123) _ _ (omega arith) (light_lexeme (x == 125) _ _ (omega arith) (light_lexeme (x == 91) _ _ (omega arith) (light_lexeme (x == 93) _ _ (omega arith) (light_lexeme (x == 44) _ _ (omega arith) (omega arith)))))

-- ---- the text, from a place where a lexeme or a string's content is read

-- the content, and the lexemes after it
abbrev Fits : Option (List ℕ) → ℕ → ℕ → Type 0
Fits None rest n = ⊤
Fits (Some s) rest n = length s + rest ≤ n

abbrev mode : Within → Mode
mode plain = in_string
mode after_backslash = in_escape
mode after_u = in_string
mode (after_high h) = in_string

data Reading : Type 0 where
  lexing : Mode → Reading
  within : Within → Reading

abbrev Reads : Reading → List ℕ → Type 0
Reads (lexing m) xs = lexeme_weights (lex m xs) ≤ length xs
Reads (within w) xs = Fits (content w xs) (lexeme_weights (lex (mode w) xs)) (length xs)

both : (rest n : ℕ) (b : Bool) (x y : Option (List ℕ)) → (b ≡ true → Fits x rest n) → (b ≡ false → Fits y rest n) → Fits (cond b x y) rest n
both rest n true x y f g = f refl
both rest n false x y f g = g refl

abbrev is_found : Option ℕ → Bool
is_found None = false
is_found (Some u) = true

then : (rest n : ℕ) (f : ℕ → Option (List ℕ)) (o : Option ℕ) → (is_found o ≡ true → (u : ℕ) → Fits (f u) rest n) → Fits (option_and_then f o) rest n
then rest n f None h = tt
then rest n f (Some u) h = h refl u

more : (rest n later m : ℕ) (o : Option (List ℕ)) → Fits o later m → rest ≡ later → m ≤ n → Fits o rest n
more rest n later m None h e le = tt
more rest n later m (Some s) h e le = omega arith

longer : (rest n later m : ℕ) (a : List ℕ) (o : Option (List ℕ)) → Fits o later m → rest ≡ later → length a + m ≤ n → Fits (prepend a o) rest n
longer rest n later m a None h e le = tt
longer rest n later m a (Some s) h e le = omega (arith, length-append a s)

all_hex : (b : Bool) (u : ℕ) → is_found (cond b (Some u) None) ≡ true → b ≡ true
all_hex true u h = refl
all_hex false u h = absurd (false≢true h)

length-encode : (u : ℕ) → length (encode_utf8 u) ≤ 4
unfolding encode_utf8
length-encode u = grind arith

passes : (o s : Bool) (x : ℕ) (xs : List ℕ) (k : Mode → List Lexeme) → lex_byte in_string (cond o operator (cond s space other)) x xs k ≡ k in_string
passes true s x xs k = refl
passes false true x xs k = refl
passes false false x xs k = refl

lex-plain : (x : ℕ) (xs : List ℕ) → (x == 34) ≡ false → (x == 92) ≡ false → lex in_string (x ∷ xs) ≡ lex in_string xs
unfolding lex
lex-plain x xs q b =
    (λ i. lex_byte in_string (cond (q i) quote (cond (b i) backslash (cond (is_operator x) operator (cond (is_space x) space other)))) x xs (λ n. lex n xs)) ∙ passes (is_operator x) (is_space x) x xs (λ n. lex n xs)

lex-quote : (x : ℕ) (xs : List ℕ) → (x == 34) ≡ true → lex in_string (x ∷ xs) ≡ lex between xs
unfolding lex
lex-quote x xs q = ap (λ y. lex in_string (y ∷ xs)) (eqb-true x 34 q)

lex-backslash : (x : ℕ) (xs : List ℕ) → (x == 92) ≡ true → lex in_string (x ∷ xs) ≡ lex in_escape xs
unfolding lex
lex-backslash x xs b = ap (λ y. lex in_string (y ∷ xs)) (eqb-true x 92 b)

lex-escape : (x : ℕ) (xs : List ℕ) → lex in_escape (x ∷ xs) ≡ lex in_string xs
unfolding lex
lex-escape x xs = refl

not_this : (c x : ℕ) (t : Bool) → (t ≡ true → x ≡ c) → is_digit c 16 ≡ false → is_digit x 16 ≡ true → t ≡ false
not_this c x false e never h = refl
not_this c x true e never h = absurd (false≢true (sym never ∙ ap (λ y. is_digit y 16) (sym (e refl)) ∙ h))

lex-hex : (x : ℕ) (xs : List ℕ) → is_digit x 16 ≡ true → lex in_string (x ∷ xs) ≡ lex in_string xs
lex-hex x xs h = lex-plain x xs (not_this 34 x (x == 34) (eqb-true x 34) refl h) (not_this 92 x (x == 92) (eqb-true x 92) refl h)

lex-unit : (a b c d : ℕ) (xs : List ℕ) → is_found (code_unit a b c d) ≡ true → lex in_string (a ∷ b ∷ c ∷ d ∷ xs) ≡ lex in_string xs
unfolding code_unit
lex-unit a b c d xs h =
    let p = and_parts (is_digit a 16 && is_digit b 16 && is_digit c 16) (is_digit d 16) (all_hex _ _ h) in
    let q = and_parts (is_digit a 16 && is_digit b 16) (is_digit c 16) p.0 in
    let r = and_parts (is_digit a 16) (is_digit b 16) q.0 in
    lex-hex a (b ∷ c ∷ d ∷ xs) r.0 ∙ lex-hex b (c ∷ d ∷ xs) r.1 ∙ lex-hex c (d ∷ xs) q.1 ∙ lex-hex d xs p.1

string_fits : (o : Option (List ℕ)) (rest n : ℕ) → Fits o rest n → rest ≤ n → weight (string_token o) + rest ≤ n + 1
string_fits None rest n h le = omega arith
string_fits (Some s) rest n h le = omega arith

-- ---- one byte outside a string

lex_between : (c : Bool) (b : Bool) (o : Bool) (s : Bool) (x : ℕ) (xs : List ℕ) → ((m : Mode) → lexeme_weights (lex m xs) ≤ length xs) → Fits (content plain xs) (lexeme_weights (lex in_string xs)) (length xs)
    → lexeme_weights (lex_byte between (cond c quote (cond b backslash (cond o operator (cond s space other)))) x xs (λ next. lex next xs)) ≤ length xs + 1
lex_between true b o s x xs again inside = string_fits (content plain xs) _ _ inside (again in_string)
lex_between false true o s x xs again inside = omega (arith, again in_word)
lex_between false false true s x xs again inside = omega (arith, again between, light_operator x)
lex_between false false false true x xs again inside = omega (arith, again between)
lex_between false false false false x xs again inside = omega (arith, again in_word, light_word (x ∷ xs))

lex_in_word : (c : Bool) (b : Bool) (o : Bool) (s : Bool) (x : ℕ) (xs : List ℕ) → ((m : Mode) → lexeme_weights (lex m xs) ≤ length xs)
    → lexeme_weights (lex_byte in_word (cond c quote (cond b backslash (cond o operator (cond s space other)))) x xs (λ next. lex next xs)) ≤ length xs + 1
lex_in_word true b o s x xs again = omega (arith, again in_word)
lex_in_word false true o s x xs again = omega (arith, again in_word)
lex_in_word false false true s x xs again = omega (arith, again between, light_operator x)
lex_in_word false false false true x xs again = omega (arith, again between)
lex_in_word false false false false x xs again = omega (arith, again in_word)

lex_in_string : (c : Bool) (b : Bool) (o : Bool) (s : Bool) (x : ℕ) (xs : List ℕ) → ((m : Mode) → lexeme_weights (lex m xs) ≤ length xs)
    → lexeme_weights (lex_byte in_string (cond c quote (cond b backslash (cond o operator (cond s space other)))) x xs (λ next. lex next xs)) ≤ length xs + 1
lex_in_string true b o s x xs again = omega (arith, again between)
lex_in_string false true o s x xs again = omega (arith, again in_escape)
lex_in_string false false true s x xs again = omega (arith, again in_string)
lex_in_string false false false true x xs again = omega (arith, again in_string)
lex_in_string false false false false x xs again = omega (arith, again in_string)

reads : (q : Reading) (xs : List ℕ) → Reads q xs
unfolding lex content
reads (lexing m) [] = omega arith
reads (lexing between) (x ∷ xs) = omega (arith, lex_between (x == 34) (x == 92) (is_operator x) (is_space x) x xs (λ m. reads (lexing m) xs) (reads (within plain) xs))
reads (lexing in_word) (x ∷ xs) = omega (arith, lex_in_word (x == 34) (x == 92) (is_operator x) (is_space x) x xs (λ m. reads (lexing m) xs))
reads (lexing in_string) (x ∷ xs) = omega (arith, lex_in_string (x == 34) (x == 92) (is_operator x) (is_space x) x xs (λ m. reads (lexing m) xs))
reads (lexing in_escape) (x ∷ xs) = omega (arith, reads (lexing in_string) xs)
reads (within plain) [] = tt
reads (within plain) (x ∷ xs) =
    let rest = lexeme_weights (lex in_string (x ∷ xs)) in
    let n = length (x ∷ xs) in
    both rest n (x == 34) _ _ (λ q. omega (arith, ap lexeme_weights (lex-quote x xs q), reads (lexing between) xs))
    (λ q. both rest n (x == 92) _ _ (λ b. more rest n _ _ _ (reads (within after_backslash) xs) (ap lexeme_weights (lex-backslash x xs b)) (omega arith))
    (λ b. both rest n (nat_lt x 32) _ _ (λ l. tt) (λ l. longer rest n _ _ (x ∷ []) _ (reads (within plain) xs) (ap lexeme_weights (lex-plain x xs q b)) (omega arith))))
reads (within after_backslash) [] = tt
reads (within after_backslash) (x ∷ xs) =
    let rest = lexeme_weights (lex in_escape (x ∷ xs)) in
    let n = length (x ∷ xs) in
    both rest n (x == 117) _ _ (λ u. more rest n _ _ _ (reads (within after_u) xs) (ap lexeme_weights (lex-escape x xs)) (omega arith))
    (λ u. then rest n _ (short_escape x) (λ f c. longer rest n _ _ (c ∷ []) _ (reads (within plain) xs) (ap lexeme_weights (lex-escape x xs)) (omega arith)))
reads (within after_u) [] = tt
reads (within after_u) (a ∷ []) = tt
reads (within after_u) (a ∷ b ∷ []) = tt
reads (within after_u) (a ∷ b ∷ c ∷ []) = tt
reads (within after_u) (a ∷ b ∷ c ∷ d ∷ xs) =
    let rest = lexeme_weights (lex in_string (a ∷ b ∷ c ∷ d ∷ xs)) in
    let n = length (a ∷ b ∷ c ∷ d ∷ xs) in
    then rest n _ (code_unit a b c d) (λ f u. both rest n (is_high_surrogate u) _ _ (λ h. more rest n _ _ _ (reads (within (after_high u)) xs) (ap lexeme_weights (lex-unit a b c d xs f)) (omega arith))
    (λ h. both rest n (is_low_surrogate u) _ _ (λ l. tt) (λ l. longer rest n _ _ (encode_utf8 u) _ (reads (within plain) xs) (ap lexeme_weights (lex-unit a b c d xs f)) (omega (arith, length-encode u)))))
reads (within (after_high h)) [] = tt
reads (within (after_high h)) (s ∷ []) = tt
reads (within (after_high h)) (s ∷ u ∷ []) = tt
reads (within (after_high h)) (s ∷ u ∷ a ∷ []) = tt
reads (within (after_high h)) (s ∷ u ∷ a ∷ b ∷ []) = tt
reads (within (after_high h)) (s ∷ u ∷ a ∷ b ∷ c ∷ []) = tt
reads (within (after_high h)) (s ∷ u ∷ a ∷ b ∷ c ∷ d ∷ xs) =
    let rest = lexeme_weights (lex in_string (s ∷ u ∷ a ∷ b ∷ c ∷ d ∷ xs)) in
    let n = length (s ∷ u ∷ a ∷ b ∷ c ∷ d ∷ xs) in
    both rest n ((s == 92) && (u == 117)) _ _ (λ e. then rest n _ (code_unit a b c d) (λ f l. both rest n (is_low_surrogate l) _ _
    (λ y. longer rest n _ _ (encode_utf8 (surrogate_pair h l)) _ (reads (within plain) xs)
    (ap lexeme_weights (lex-backslash s (u ∷ a ∷ b ∷ c ∷ d ∷ xs) (and_parts _ _ e).0 ∙ lex-escape u (a ∷ b ∷ c ∷ d ∷ xs) ∙ lex-unit a b c d xs f)) (omega (arith, length-encode (surrogate_pair h l)))) (λ y. tt))) (λ e. tt)

-- ---- commas and colons

allowed : (b : Bool) (t : Token) (k : Place → List Token) (next : Place) (n : ℕ) → ((p : Place) → weights (k p) ≤ n) → weights (if_allowed b t k next) ≤ weight t + n
allowed true t k next n h = omega (arith, h next)
allowed false t k next n h = omega arith

placed : (p : Place) (t : Token) (b : Bool) (k : Place → List Token) (n : ℕ) → ((q : Place) → weights (k q) ≤ n) → weights (place_token p t b k) ≤ weight t + n
placed p Token.begin_object b k n h = allowed _ _ k _ n h
placed p Token.end_object b k n h = allowed _ _ k _ n h
placed p Token.begin_array b k n h = allowed _ _ k _ n h
placed p Token.end_array b k n h = allowed _ _ k _ n h
placed p (Token.key s) b k n h = omega arith
placed p (Token.string s) true k n h = omega (arith, allowed (may_begin p) (Token.key s) k after_key n h)
placed p (Token.string s) false k n h = allowed _ _ k _ n h
placed p (Token.number s) b k n h = allowed _ _ k _ n h
placed p (Token.boolean c) b k n h = allowed _ _ k _ n h
placed p Token.null b k n h = allowed _ _ k _ n h
placed p Token.bad b k n h = omega arith

punctuated : (ls : List Lexeme) (p : Place) → weights (punctuate p ls) ≤ lexeme_weights ls
unfolding punctuate
punctuated [] fresh = omega arith
punctuated [] after_value = omega arith
punctuated [] after_comma = omega arith
punctuated [] after_key = omega arith
punctuated (token t ∷ ls) fresh = placed fresh t (begins_colon ls) (λ next. punctuate next ls) _ (punctuated ls)
punctuated (token t ∷ ls) after_value = placed after_value t (begins_colon ls) (λ next. punctuate next ls) _ (punctuated ls)
punctuated (token t ∷ ls) after_comma = placed after_comma t (begins_colon ls) (λ next. punctuate next ls) _ (punctuated ls)
punctuated (token t ∷ ls) after_key = placed after_key t (begins_colon ls) (λ next. punctuate next ls) _ (punctuated ls)
punctuated (comma ∷ ls) fresh = omega arith
punctuated (comma ∷ ls) after_value = omega (arith, punctuated ls after_comma)
punctuated (comma ∷ ls) after_comma = omega arith
punctuated (comma ∷ ls) after_key = omega arith
punctuated (colon ∷ ls) fresh = omega arith
punctuated (colon ∷ ls) after_value = omega arith
punctuated (colon ∷ ls) after_comma = omega arith
punctuated (colon ∷ ls) after_key = omega (arith, punctuated ls fresh)

-- the tokens of a text are no larger than the text
pub weights-tokens : (text : List ℕ) → weights (tokens text) ≤ length text
weights-tokens text = omega (arith, punctuated (lex between text) fresh, reads (lexing between) text)
