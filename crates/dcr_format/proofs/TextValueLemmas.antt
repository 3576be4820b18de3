-- The strings of a JSON value that UTF-8 bytes are, are UTF-8.
use Rattle.std.proofs.Common.{◌≡◌, ℕ, zero, suc, ◌-◌, Bool, true, false, cond, ◌&&◌, ◌==◌, nat_eq, List, [], ◌∷◌, ◌++◌, length, take, drop, Option, Some, None, option_map, option_and_then, Ordering, Less, Equal, Greater, IsUtf8, refl, sym, subst}
use Rattle.std.specs.Prelude.{⊤}
use Rattle.std.specs.List.{starts_with}
use Rattle.std.specs.Ordering.{nat_cmp, match_ordering}
use Rattle.std.specs.Cmp.Lexicographic.{slice_cmp}
use Rattle.std.proofs.lemmas.Bool.{eqb-true}
use Rattle.std.proofs.lemmas.List.{append_assoc}
use Rattle.std.specs.Str.{is_utf8}
use Rattle.std.proofs.lemmas.Str.{IsUtf8-from_is_utf8}
use Rattle.json.specs.Token.{Token}
use Rattle.json.specs.Text.{plain, content}
use Rattle.json.specs.Ascii.{true_text, false_text, null_text}
use Rattle.json.specs.Word.{is_operator, is_space, head, ends_word, literal, number_before, after_number, word}
use Rattle.json.specs.Lex.{Lexeme, token, comma, colon, Class, quote, backslash, operator, space, other, class, operator_lexeme, string_token, Mode, between, in_word, in_string, in_escape, lex_byte, lex, Place, fresh, after_value, after_comma, after_key, may_begin, begins_colon, if_allowed, place_token, punctuate, tokens}
use Rattle.json.specs.Json as json
use Rattle.json.specs.Json.{Parse, parse_map, after_end_array, read_key, items_step, members_step, items, members, value_with, value}
use Rattle.serde_json.specs.Data.{Num, Data, null, boolean, number, string, array, object, Items, no_items, item, Members, no_members, member, put}
use Rattle.serde_json.specs.Find.{get, get_member}
use Rattle.serde_json.specs.Read.{number_of, of_json, of_items, of_members, max_depth, read}
use Rattle.dcr_format.specs.SizeLaws.{json_in}
use Rattle.dcr_format.proofs.StringLemmas.{Each, content_utf8, after_quote}

-- ---- tokens

-- a token that is a string is UTF-8
abbrev IsText : Token → Type 0
IsText Token.begin_object = ⊤
IsText Token.end_object = ⊤
IsText Token.begin_array = ⊤
IsText Token.end_array = ⊤
IsText (Token.key s) = ⊤
IsText (Token.string s) = IsUtf8 s
IsText (Token.number s) = ⊤
IsText (Token.boolean b) = ⊤
IsText Token.null = ⊤
IsText Token.bad = ⊤

abbrev AreTexts : List Token → Type 0
AreTexts [] = ⊤
AreTexts (t ∷ ts) = IsText t × AreTexts ts

abbrev IsTextLexeme : Lexeme → Type 0
IsTextLexeme (token t) = IsText t
IsTextLexeme comma = ⊤
IsTextLexeme colon = ⊤

abbrev AreTextLexemes : List Lexeme → Type 0
AreTextLexemes [] = ⊤
AreTextLexemes (l ∷ ls) = IsTextLexeme l × AreTextLexemes ls

one_of : (b : Bool) (s t : Token) → IsText s → IsText t → IsText (cond b s t)
one_of true s t p q = p
one_of false s t p q = q

one_lexeme : (b : Bool) (s t : Lexeme) → IsTextLexeme s → IsTextLexeme t → IsTextLexeme (cond b s t)
one_lexeme true s t p q = p
one_lexeme false s t p q = q

number_text : (text : List ℕ) (o : Option (List ℕ)) → IsText (number_before text o)
number_text text None = tt
number_text text (Some rest) = one_of (ends_word rest) (Token.number (take (length text - length rest) text)) Token.bad tt tt

literal_text : (name : List ℕ) (t : Token) (text : List ℕ) → IsText t → IsText (literal name t text)
literal_text name t text h = one_of (starts_with nat_eq text name && ends_word (drop (length name) text)) t Token.bad h tt

word_text : (text : List ℕ) → IsText (word text)
unfolding word
word_text text =
    one_of (head text == 116) _ _ (literal_text true_text (Token.boolean true) text tt)
    (one_of (head text == 102) _ _ (literal_text false_text (Token.boolean false) text tt)
    (one_of (head text == 110) _ _ (literal_text null_text Token.null text tt) (number_text text (after_number text))))

operator_text : (x : ℕ) → IsTextLexeme (operator_lexeme x)
operator_text x =
    one_lexeme (x == 123) _ _ tt (one_lexeme (x == 125) _ _ tt (one_lexeme (x == 91) _ _ tt (one_lexeme (x == 93) _ _ tt (one_lexeme (x == 44) comma colon tt tt))))

string_text : (o : Option (List ℕ)) → Each IsUtf8 o → IsText (string_token o)
string_text None h = tt
string_text (Some s) h = h

at_byte : (m : Mode) (c : Class) (x : ℕ) (xs : List ℕ) → ((n : Mode) → AreTextLexemes (lex n xs)) → (c ≡ quote → Each IsUtf8 (content plain xs)) → AreTextLexemes (lex_byte m c x xs (λ next. lex next xs))
at_byte between quote x xs again inside = (string_text (content plain xs) (inside refl), again in_string)
at_byte between backslash x xs again inside = (tt, again in_word)
at_byte between operator x xs again inside = (operator_text x, again between)
at_byte between space x xs again inside = again between
at_byte between other x xs again inside = (word_text (x ∷ xs), again in_word)
at_byte in_word quote x xs again inside = again in_word
at_byte in_word backslash x xs again inside = again in_word
at_byte in_word operator x xs again inside = (operator_text x, again between)
at_byte in_word space x xs again inside = again between
at_byte in_word other x xs again inside = again in_word
at_byte in_string quote x xs again inside = again between
at_byte in_string backslash x xs again inside = again in_escape
at_byte in_string operator x xs again inside = again in_string
at_byte in_string space x xs again inside = again in_string
at_byte in_string other x xs again inside = again in_string
at_byte in_escape c x xs again inside = again in_string

quote_class : (q b o s : Bool) → cond q quote (cond b backslash (cond o operator (cond s space other))) ≡ quote → q ≡ true
quote_class true b o s e = refl
quote_class false true o s e = absurd cc
quote_class false false true s e = absurd cc
quote_class false false false true e = absurd cc
quote_class false false false false e = absurd cc

-- the lexemes of what stands after some bytes of a text
lexed : (m : Mode) (xs p : List ℕ) → IsUtf8 (p ++ xs) → AreTextLexemes (lex m xs)
unfolding lex
lexed m [] p u = tt
lexed m (x ∷ xs) p u =
    at_byte m (class x) x xs (λ n. lexed n xs (p ++ x ∷ []) (subst IsUtf8 (sym (append_assoc p (x ∷ []) xs)) u))
    (λ e. content_utf8 xs (after_quote p x xs (eqb-true x 34 (quote_class (x == 34) (x == 92) (is_operator x) (is_space x) e)) u))

allowed : (b : Bool) (t : Token) (k : Place → List Token) (next : Place) → IsText t → ((p : Place) → AreTexts (k p)) → AreTexts (if_allowed b t k next)
allowed true t k next h more = (h, more next)
allowed false t k next h more = (tt, tt)

placed : (p : Place) (t : Token) (b : Bool) (k : Place → List Token) → IsText t → ((q : Place) → AreTexts (k q)) → AreTexts (place_token p t b k)
placed p Token.begin_object b k h more = allowed _ _ k _ tt more
placed p Token.end_object b k h more = allowed _ _ k _ tt more
placed p Token.begin_array b k h more = allowed _ _ k _ tt more
placed p Token.end_array b k h more = allowed _ _ k _ tt more
placed p (Token.key s) b k h more = (tt, tt)
placed p (Token.string s) true k h more = allowed (may_begin p) (Token.key s) k after_key tt more
placed p (Token.string s) false k h more = allowed (may_begin p) (Token.string s) k after_value h more
placed p (Token.number s) b k h more = allowed _ _ k _ tt more
placed p (Token.boolean c) b k h more = allowed _ _ k _ tt more
placed p Token.null b k h more = allowed _ _ k _ tt more
placed p Token.bad b k h more = (tt, tt)

punctuated : (ls : List Lexeme) (p : Place) → AreTextLexemes ls → AreTexts (punctuate p ls)
unfolding punctuate
punctuated [] fresh h = tt
punctuated [] after_value h = tt
punctuated [] after_comma h = (tt, tt)
punctuated [] after_key h = (tt, tt)
punctuated (token t ∷ ls) fresh h = placed fresh t (begins_colon ls) (λ next. punctuate next ls) h.0 (λ q. punctuated ls q h.1)
punctuated (token t ∷ ls) after_value h = placed after_value t (begins_colon ls) (λ next. punctuate next ls) h.0 (λ q. punctuated ls q h.1)
punctuated (token t ∷ ls) after_comma h = placed after_comma t (begins_colon ls) (λ next. punctuate next ls) h.0 (λ q. punctuated ls q h.1)
punctuated (token t ∷ ls) after_key h = placed after_key t (begins_colon ls) (λ next. punctuate next ls) h.0 (λ q. punctuated ls q h.1)
punctuated (comma ∷ ls) fresh h = (tt, tt)
punctuated (comma ∷ ls) after_value h = punctuated ls after_comma h.1
punctuated (comma ∷ ls) after_comma h = (tt, tt)
punctuated (comma ∷ ls) after_key h = (tt, tt)
punctuated (colon ∷ ls) fresh h = (tt, tt)
punctuated (colon ∷ ls) after_value h = (tt, tt)
punctuated (colon ∷ ls) after_comma h = (tt, tt)
punctuated (colon ∷ ls) after_key h = punctuated ls fresh h.1

tokens_text : (text : List ℕ) → IsUtf8 text → AreTexts (tokens text)
tokens_text text u = punctuated (lex between text) fresh (lexed between text [] u)

-- ---- what the grammar reads

abbrev mutual
  HasTexts : json.Json → Type 0
  HasTexts json.null = ⊤
  HasTexts (json.boolean b) = ⊤
  HasTexts (json.number s) = ⊤
  HasTexts (json.string s) = IsUtf8 s
  HasTexts (json.array js) = ItemsHaveTexts js
  HasTexts (json.object ms) = MembersHaveTexts ms

  ItemsHaveTexts : json.Items → Type 0
  ItemsHaveTexts json.no_items = ⊤
  ItemsHaveTexts (json.item j js) = HasTexts j × ItemsHaveTexts js

  MembersHaveTexts : json.Members → Type 0
  MembersHaveTexts json.no_members = ⊤
  MembersHaveTexts (json.member k j ms) = HasTexts j × MembersHaveTexts ms

-- what was read, and the tokens that are left
abbrev Found : {A : Type 0} → (A → Type 0) → Option (A × List Token) → Type 0
Found P None = ⊤
Found P (Some p) = P p.0 × AreTexts p.1

abbrev Keeps : {A : Type 0} → (A → Type 0) → Parse A → Type 0
Keeps P p = (ts : List Token) → AreTexts ts → Found P (p ts)

mapped : {A B : Type 0} (P : A → Type 0) (Q : B → Type 0) (h : A → B) → ((a : A) → P a → Q (h a)) → (o : Option (A × List Token)) → Found P o → Found Q (parse_map h o)
mapped P Q h k None x = tt
mapped P Q h k (Some p) x = (k p.0 x.0, x.1)

and_more : {B : Type 0} (Q : B → Type 0) (h : json.Json → B → B) → ((j : json.Json) (b : B) → HasTexts j → Q b → Q (h j b)) → (more : Parse B) → Keeps Q more
    → (o : Option (json.Json × List Token)) → Found HasTexts o → Found Q (option_and_then (λ q. parse_map (h q.0) (more q.1)) o)
and_more Q h is more keeps None x = tt
and_more Q h is more keeps (Some q) x = mapped Q Q (h q.0) (λ b. is q.0 b x.0) (more q.1) (keeps q.1 x.1)

closed : (ts r : List Token) → after_end_array ts ≡ Some r → AreTexts ts → AreTexts r
closed [] r e h = absurd cc
closed (Token.begin_object ∷ ts) r e h = absurd cc
closed (Token.end_object ∷ ts) r e h = absurd cc
closed (Token.begin_array ∷ ts) r e h = absurd cc
closed (Token.end_array ∷ ts) r e h = let same : ts ≡ r = cc in subst AreTexts same h.1
closed (Token.key s ∷ ts) r e h = absurd cc
closed (Token.string s ∷ ts) r e h = absurd cc
closed (Token.number s ∷ ts) r e h = absurd cc
closed (Token.boolean b ∷ ts) r e h = absurd cc
closed (Token.null ∷ ts) r e h = absurd cc
closed (Token.bad ∷ ts) r e h = absurd cc

abbrev AnyKey : Option (List ℕ) → Type 0
AnyKey k = ⊤

keyed : (ts : List Token) → AreTexts ts → Found AnyKey (read_key ts)
keyed [] h = tt
keyed (Token.begin_object ∷ ts) h = tt
keyed (Token.end_object ∷ ts) h = (tt, h.1)
keyed (Token.begin_array ∷ ts) h = tt
keyed (Token.end_array ∷ ts) h = tt
keyed (Token.key s ∷ ts) h = (tt, h.1)
keyed (Token.string s ∷ ts) h = tt
keyed (Token.number s ∷ ts) h = tt
keyed (Token.boolean b ∷ ts) h = tt
keyed (Token.null ∷ ts) h = tt
keyed (Token.bad ∷ ts) h = tt

module _ (p : Parse json.Json) (keeps : Keeps HasTexts p) where
  item_turn : (more : Parse json.Items) → Keeps ItemsHaveTexts more → (ts : List Token) (o : Option (List Token)) → after_end_array ts ≡ o → AreTexts ts → Found ItemsHaveTexts (items_step p more ts o)
  item_turn more again ts (Some r) e h = (tt, closed ts r e h)
  item_turn more again ts None e h = and_more ItemsHaveTexts json.item (λ j b x y. (x, y)) more again (p ts) (keeps ts h)

  keeps_items : (n : ℕ) → Keeps ItemsHaveTexts (items p n)
  unfolding items
  keeps_items zero ts h = tt
  keeps_items (suc n) ts h = item_turn (items p n) (keeps_items n) ts (after_end_array ts) refl h

  member_turn : (more : Parse json.Members) → Keeps MembersHaveTexts more → (o : Option (Option (List ℕ) × List Token)) → Found AnyKey o → Found MembersHaveTexts (option_and_then (λ q. members_step p more q.0 q.1) o)
  member_turn more again None x = tt
  member_turn more again (Some (None, s)) x = (tt, x.1)
  member_turn more again (Some (Some k, s)) x = and_more MembersHaveTexts (json.member k) (λ j b y z. (y, z)) more again (p s) (keeps s x.1)

  keeps_members : (n : ℕ) → Keeps MembersHaveTexts (members p n)
  unfolding members
  keeps_members zero ts h = tt
  keeps_members (suc n) ts h = member_turn (members p n) (keeps_members n) (read_key ts) (keyed ts h)

one_level : (a : Parse json.Items) (o : Parse json.Members) → Keeps ItemsHaveTexts a → Keeps MembersHaveTexts o → Keeps HasTexts (value_with a o)
one_level a o p q [] h = tt
one_level a o p q (Token.begin_object ∷ ts) h = mapped MembersHaveTexts HasTexts json.object (λ ms x. x) (o ts) (q ts h.1)
one_level a o p q (Token.end_object ∷ ts) h = tt
one_level a o p q (Token.begin_array ∷ ts) h = mapped ItemsHaveTexts HasTexts json.array (λ js x. x) (a ts) (p ts h.1)
one_level a o p q (Token.end_array ∷ ts) h = tt
one_level a o p q (Token.key s ∷ ts) h = tt
one_level a o p q (Token.string s ∷ ts) h = h
one_level a o p q (Token.number s ∷ ts) h = (tt, h.1)
one_level a o p q (Token.boolean b ∷ ts) h = (tt, h.1)
one_level a o p q (Token.null ∷ ts) h = (tt, h.1)
one_level a o p q (Token.bad ∷ ts) h = tt

keeps_value : (d : ℕ) → Keeps HasTexts (value d)
unfolding value
keeps_value zero = one_level (λ ts. None) (λ ts. None) (λ ts h. tt) (λ ts h. tt)
keeps_value (suc d) =
    one_level (λ ts. items (value d) (length ts) ts) (λ ts. members (value d) (length ts) ts) (λ ts. keeps_items (value d) (keeps_value d) (length ts) ts) (λ ts. keeps_members (value d) (keeps_value d) (length ts) ts)

-- ---- what the data is

abbrev mutual
  pub IsTextValue : Data → Type 0
  IsTextValue null = ⊤
  IsTextValue (boolean b) = ⊤
  IsTextValue (number n) = ⊤
  IsTextValue (string s) = IsUtf8 s
  IsTextValue (array ds) = AreTextItems ds
  IsTextValue (object ms) = AreTextMembers ms

  pub AreTextItems : Items → Type 0
  AreTextItems no_items = ⊤
  AreTextItems (item d ds) = IsTextValue d × AreTextItems ds

  pub AreTextMembers : Members → Type 0
  AreTextMembers no_members = ⊤
  AreTextMembers (member k d ms) = IsTextValue d × AreTextMembers ms

abbrev Is : {A : Type 0} → (A → Type 0) → Option A → Type 0
Is P None = ⊤
Is P (Some a) = P a

is_mapped : {A B : Type 0} (P : A → Type 0) (Q : B → Type 0) (h : A → B) → ((a : A) → P a → Q (h a)) → (o : Option A) → Is P o → Is Q (option_map h o)
is_mapped P Q h k None x = tt
is_mapped P Q h k (Some a) x = k a x

is_then : {A B : Type 0} (P : A → Type 0) (Q : B → Type 0) (h : A → Option B) → ((a : A) → P a → Is Q (h a)) → (o : Option A) → Is P o → Is Q (option_and_then h o)
is_then P Q h k None x = tt
is_then P Q h k (Some a) x = k a x

numbered : (o : Option Num) → Is IsTextValue (option_map number o)
numbered None = tt
numbered (Some n) = tt

by_ordering : (o : Ordering) (a b c : Members) → AreTextMembers a → AreTextMembers b → AreTextMembers c → AreTextMembers (match_ordering o a b c)
by_ordering Less a b c p q r = p
by_ordering Equal a b c p q r = q
by_ordering Greater a b c p q r = r

put_text : (k : List ℕ) (d : Data) (ms : Members) → IsTextValue d → AreTextMembers ms → AreTextMembers (put k d ms)
put_text k d no_members h m = (h, tt)
put_text k d (member l e ms) h m =
    by_ordering _ (member k d (member l e ms)) (member l d ms) (member l e (put k d ms)) (h, m) (h, m.1) (m.0, put_text k d ms h m.1)

mutual
  text_of_json : (j : json.Json) → HasTexts j → Is IsTextValue (of_json j)
  text_of_json json.null h = tt
  text_of_json (json.boolean b) h = tt
  text_of_json (json.number s) h = numbered (number_of s)
  text_of_json (json.string s) h = h
  text_of_json (json.array js) h = is_mapped AreTextItems IsTextValue array (λ a x. x) _ (text_of_items js h)
  text_of_json (json.object ms) h = is_mapped AreTextMembers IsTextValue object (λ a x. x) _ (text_of_members ms no_members h tt)

  text_of_items : (js : json.Items) → ItemsHaveTexts js → Is AreTextItems (of_items js)
  text_of_items json.no_items h = tt
  text_of_items (json.item j js) h =
      is_then IsTextValue AreTextItems _ (λ d x. is_mapped AreTextItems AreTextItems (item d) (λ ds y. (x, y)) _ (text_of_items js h.1)) _ (text_of_json j h.0)

  text_of_members : (ms : json.Members) (found : Members) → MembersHaveTexts ms → AreTextMembers found → Is AreTextMembers (of_members ms found)
  text_of_members json.no_members found h m = m
  text_of_members (json.member name j ms) found h m =
      is_then IsTextValue AreTextMembers _ (λ d x. text_of_members ms (put name d found) h.1 (put_text name d found x m)) _ (text_of_json j h.0)

last_text : (o : Option (json.Json × List Token)) → Found HasTexts o → Is HasTexts (option_and_then (λ p. json.if_last p.0 p.1) o)
last_text None h = tt
last_text (Some (j, [])) h = h.0
last_text (Some (j, t ∷ r)) h = tt

-- the value that a text is has UTF-8 strings
pub read_text : (text : List ℕ) (d : Data) → IsUtf8 text → read text ≡ Some d → IsTextValue d
read_text text d u e =
    subst (Is IsTextValue) e (is_then HasTexts IsTextValue of_json text_of_json _ (last_text _ (keeps_value max_depth (tokens text) (tokens_text text u))))

-- ---- its members

by_key : (o : Ordering) (r : Option Data) (e part : Data) → (r ≡ Some part → IsTextValue part) → IsTextValue e → match_ordering o r (Some e) r ≡ Some part → IsTextValue part
by_key Less r e part h t is = h is
by_key Equal r e part h t is = let same : e ≡ part = cc in subst IsTextValue same t
by_key Greater r e part h t is = h is

member_text : (name : List ℕ) (ms : Members) (part : Data) → AreTextMembers ms → get_member name ms ≡ Some part → IsTextValue part
member_text name no_members part h e = absurd cc
member_text name (member k d ms) part h e = by_key (slice_cmp nat_cmp name k) (get_member name ms) d part (member_text name ms part h.1) h.0 e

pub get_text : (name : List ℕ) (d part : Data) → IsTextValue d → get name d ≡ Some part → IsTextValue part
get_text name null part h e = absurd cc
get_text name (boolean b) part h e = absurd cc
get_text name (number n) part h e = absurd cc
get_text name (string s) part h e = absurd cc
get_text name (array ds) part h e = absurd cc
get_text name (object ms) part h e = member_text name ms part h e

-- ---- the value of bytes

is_read : (b : Bool) (o : Option Data) (d : Data) → cond b o None ≡ Some d → (b ≡ true) × (o ≡ Some d)
is_read true o d e = (refl, e)
is_read false o d e = absurd cc

-- the strings of the value of bytes are UTF-8
pub json_text : (bytes : List ℕ) (d : Data) → json_in bytes ≡ Some d → IsTextValue d
unfolding json_in
json_text bytes d e = let p = is_read (is_utf8 bytes) (read bytes) d e in read_text bytes d (IsUtf8-from_is_utf8 bytes p.0) p.1
