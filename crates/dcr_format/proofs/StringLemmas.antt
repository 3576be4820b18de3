-- A string of a JSON text that is UTF-8 is UTF-8 when its escapes are undone.
use Rattle.std.proofs.Common.{◌≡◌, ℕ, ◌+◌, ◌*◌, ◌<◌, ◌≤◌, Bool, true, false, cond, ◌&&◌, ◌||◌, ◌==◌, nat_le, nat_lt, List, [], ◌∷◌, ◌++◌, length, get_or, Option, Some, None, option_and_then, IsUtf8, refl, sym, subst, arith}
use Rattle.std.specs.Prelude.{⊤}
use Rattle.std.specs.Char.{is_digit, digit_value, encode_utf8, IsScalar}
use Rattle.std.proofs.Math.Seq.{take-append_seam, drop-append-add}
use Rattle.std.proofs.lemmas.Bool.{eqb-true, and_parts, ltb-true}
use Rattle.std.proofs.lemmas.List.{append-nil, append_assoc, length-append}
use Rattle.std.proofs.lemmas.Str.{IsUtf8-append, IsUtf8-drop, IsUtf8-take, IsUtf8-encode, encode_ascii, IsCharBoundary-before_ascii, IsCharBoundary-after_ascii}
use Rattle.json.specs.Text.{code_unit, short_escape, is_high_surrogate, is_low_surrogate, surrogate_pair, Within, plain, after_backslash, after_u, after_high, prepend, content}

-- ---- a text that an ASCII byte cuts

get_or-seam : (p : List ℕ) (x : ℕ) (xs : List ℕ) → get_or (p ++ x ∷ xs) (length p) 0 ≡ x
get_or-seam [] x xs = refl
get_or-seam (y ∷ p) x xs = get_or-seam p x xs

module _ (p : List ℕ) (x : ℕ) (xs : List ℕ) (small : x < 128) (whole : IsUtf8 (p ++ x ∷ xs)) where
  within : length p < length (p ++ x ∷ xs)
  within = omega (arith, length-append p (x ∷ xs))

  here : get_or (p ++ x ∷ xs) (length p) 0 < 128
  here = subst (λ y. y < 128) (sym (get_or-seam p x xs)) small

  -- what stands before it, and after it
  before_ascii : IsUtf8 p
  before_ascii = subst IsUtf8 (take-append_seam p (x ∷ xs)) (IsUtf8-take (p ++ x ∷ xs) (length p) whole (IsCharBoundary-before_ascii (p ++ x ∷ xs) (length p) within here))

  after_ascii : IsUtf8 xs
  after_ascii = subst IsUtf8 (drop-append-add p (x ∷ xs) 1) (IsUtf8-drop (p ++ x ∷ xs) (length p + 1) whole (IsCharBoundary-after_ascii (p ++ x ∷ xs) (length p) whole within here))

scalar_low : (c : ℕ) → c < 55296 → IsScalar c
scalar_low c l = grind arith

-- one ASCII byte before a text
ascii_then : (x : ℕ) (xs : List ℕ) → x < 128 → IsUtf8 xs → IsUtf8 (x ∷ xs)
ascii_then x xs small text = IsUtf8-append (x ∷ []) xs (subst IsUtf8 (encode_ascii x small) (IsUtf8-encode x (scalar_low x (omega arith)))) text

-- ---- bytes of an escape

small_digit : (x : ℕ) → is_digit x 16 ≡ true → x < 128
small_digit x e = grind (arith, e)

four_small : (a b c d : ℕ) → (is_digit a 16 && is_digit b 16 && is_digit c 16 && is_digit d 16) ≡ true → (a < 128) × (b < 128) × (c < 128) × (d < 128)
four_small a b c d e =
    let p = and_parts (is_digit a 16 && is_digit b 16 && is_digit c 16) (is_digit d 16) e in
    let q = and_parts (is_digit a 16 && is_digit b 16) (is_digit c 16) p.0 in
    let r = and_parts (is_digit a 16) (is_digit b 16) q.0 in
    (small_digit a r.0, small_digit b r.1, small_digit c q.1, small_digit d p.1)

unit_below : (a b c d : ℕ) → (is_digit a 16 && is_digit b 16 && is_digit c 16 && is_digit d 16) ≡ true → digit_value a * 4096 + digit_value b * 256 + digit_value c * 16 + digit_value d < 65536
unit_below a b c d e =
    let p = and_parts (is_digit a 16 && is_digit b 16 && is_digit c 16) (is_digit d 16) e in
    let q = and_parts (is_digit a 16 && is_digit b 16) (is_digit c 16) p.0 in
    let r = and_parts (is_digit a 16) (is_digit b 16) q.0 in
    omega (arith, ltb-true _ _ r.0, ltb-true _ _ r.1, ltb-true _ _ q.1, ltb-true _ _ p.1)

-- the four bytes of a code unit are ASCII, and it is below 65,536
record IsUnit (a b c d u : ℕ) : Type 0 where
  small : (a < 128) × (b < 128) × (c < 128) × (d < 128)
  below : u < 65536

some_unit : (t : Bool) (v u : ℕ) → cond t (Some v) None ≡ Some u → (t ≡ true) × (v ≡ u)
some_unit true v u e = (refl, cc)
some_unit false v u e = absurd cc

unit_is : (a b c d u : ℕ) → code_unit a b c d ≡ Some u → IsUnit a b c d u
unfolding code_unit
unit_is a b c d u e =
    let p = some_unit _ _ u e in
    record { small = four_small a b c d p.0; below = subst (λ n. n < 65536) p.1 (unit_below a b c d p.0) }

either : {C : Type 0} (a b : Bool) → (a || b) ≡ true → (a ≡ true → C) → (b ≡ true → C) → C
either true b e f g = f refl
either false b e f g = g e

same_byte : (x n : ℕ) → n < 128 → (x == n) ≡ true → x < 128
same_byte x n l e = let same = eqb-true x n e in omega arith

chosen : (x c : ℕ) (b : Bool) (v : ℕ) (r : Option ℕ) → (b ≡ true → (x < 128) × (v < 128)) → (r ≡ Some c → (x < 128) × (c < 128)) → cond b (Some v) r ≡ Some c → (x < 128) × (c < 128)
chosen x c true v r h more e = let same : v ≡ c = cc in let p = h refl in (p.0, subst (λ n. n < 128) same p.1)
chosen x c false v r h more e = more e

-- the byte of a short escape is ASCII, and what it stands for
short_small : (x c : ℕ) → short_escape x ≡ Some c → (x < 128) × (c < 128)
unfolding short_escape
short_small x c e =
    let twice : x < 128 → (x < 128) × (x < 128) = λ l. (l, l) in
    chosen x c _ x _ (λ t. twice (either _ _ t (λ u. either _ _ u (same_byte x 34 (omega arith)) (same_byte x 92 (omega arith))) (same_byte x 47 (omega arith))))
    (chosen x c (x == 98) 8 _ (λ t. (same_byte x 98 (omega arith) t, omega arith))
    (chosen x c (x == 102) 12 _ (λ t. (same_byte x 102 (omega arith) t, omega arith))
    (chosen x c (x == 110) 10 _ (λ t. (same_byte x 110 (omega arith) t, omega arith))
    (chosen x c (x == 114) 13 _ (λ t. (same_byte x 114 (omega arith) t, omega arith))
    (chosen x c (x == 116) 9 None (λ t. (same_byte x 116 (omega arith) t, omega arith)) (λ n. absurd cc)))))) e

-- ---- characters

scalar_high : (c : ℕ) → 57344 ≤ c → c < 1114112 → IsScalar c
scalar_high c l m = grind arith

-- a code unit that is no surrogate is a character
unit_scalar : (u : ℕ) → u < 65536 → is_high_surrogate u ≡ false → is_low_surrogate u ≡ false → IsScalar u
unit_scalar u l high low = grind arith

pair_scalar : (h l : ℕ) → h < 56320 → is_low_surrogate l ≡ true → IsScalar (surrogate_pair h l)
pair_scalar h l small low =
    let less : l < 57344 = ltb-true l 57344 (and_parts (nat_le 56320 l) (nat_lt l 57344) low).1 in
    scalar_high (surrogate_pair h l) (omega arith) (omega arith)

-- ---- the content of a string

abbrev pub Each : (List ℕ → Type 0) → Option (List ℕ) → Type 0
Each P None = ⊤
Each P (Some s) = P s

both : (P : List ℕ → Type 0) (b : Bool) (x y : Option (List ℕ)) → (b ≡ true → Each P x) → (b ≡ false → Each P y) → Each P (cond b x y)
both P true x y f g = f refl
both P false x y f g = g refl

then : (P : List ℕ → Type 0) (f : ℕ → Option (List ℕ)) (o : Option ℕ) → ((u : ℕ) → o ≡ Some u → Each P (f u)) → Each P (option_and_then f o)
then P f None h = tt
then P f (Some u) h = h u refl

each_more : (P Q : List ℕ → Type 0) (o : Option (List ℕ)) → ((s : List ℕ) → P s → Q s) → Each P o → Each Q o
each_more P Q None h x = tt
each_more P Q (Some s) h x = h s x

prepended : (P Q : List ℕ → Type 0) (a : List ℕ) (o : Option (List ℕ)) → ((s : List ℕ) → P s → Q (a ++ s)) → Each P o → Each Q (prepend a o)
prepended P Q a None h x = tt
prepended P Q a (Some s) h x = h s x

-- where the bytes before xs, as they stand, and xs are a text, so are these bytes and the content
abbrev Reads : Within → List ℕ → Type 0
Reads plain xs = (p : List ℕ) → IsUtf8 (p ++ xs) → Each (λ s. IsUtf8 (p ++ s)) (content plain xs)
Reads after_backslash xs = IsUtf8 xs → Each IsUtf8 (content after_backslash xs)
Reads after_u xs = IsUtf8 xs → Each IsUtf8 (content after_u xs)
Reads (after_high h) xs = h < 56320 → IsUtf8 xs → Each IsUtf8 (content (after_high h) xs)

after_four : (a b c d : ℕ) (xs : List ℕ) → (a < 128) × (b < 128) × (c < 128) × (d < 128) → IsUtf8 (a ∷ b ∷ c ∷ d ∷ xs) → IsUtf8 xs
after_four a b c d xs small u =
    after_ascii [] d xs small.3 (after_ascii [] c (d ∷ xs) small.2 (after_ascii [] b (c ∷ d ∷ xs) small.1 (after_ascii [] a (b ∷ c ∷ d ∷ xs) small.0 u)))

-- a character before the rest
char_then : (c : ℕ) (xs : List ℕ) → IsScalar c → IsUtf8 xs → Reads plain xs → Each IsUtf8 (prepend (encode_utf8 c) (content plain xs))
char_then c xs is u more = prepended IsUtf8 IsUtf8 (encode_utf8 c) (content plain xs) (λ s t. IsUtf8-append (encode_utf8 c) s (IsUtf8-encode c is) t) (more [] u)

char_ascii : (c : ℕ) (xs : List ℕ) → c < 128 → IsUtf8 xs → Reads plain xs → Each IsUtf8 (prepend (c ∷ []) (content plain xs))
char_ascii c xs small u more = prepended IsUtf8 IsUtf8 (c ∷ []) (content plain xs) (λ s t. ascii_then c s small t) (more [] u)

reads : (w : Within) (xs : List ℕ) → Reads w xs
unfolding content
reads plain [] = λ p u. tt
reads plain (x ∷ xs) = λ p u. let P : List ℕ → Type 0 = λ s. IsUtf8 (p ++ s) in
    both P (x == 34) _ _ (λ e. subst IsUtf8 (sym (append-nil p)) (before_ascii p x xs (same_byte x 34 (omega arith) e) u))
    (λ _. both P (x == 92) _ _
    (λ e. let small = same_byte x 92 (omega arith) e in each_more IsUtf8 P (content after_backslash xs) (λ s t. IsUtf8-append p s (before_ascii p x xs small u) t) (reads after_backslash xs (after_ascii p x xs small u)))
    (λ _. both P (nat_lt x 32) _ _ (λ _. tt) (λ _. prepended (λ s. IsUtf8 ((p ++ x ∷ []) ++ s)) P (x ∷ []) (content plain xs)
    (λ s t. subst IsUtf8 (append_assoc p (x ∷ []) s) t) (reads plain xs (p ++ x ∷ []) (subst IsUtf8 (sym (append_assoc p (x ∷ []) xs)) u)))))
reads after_backslash [] = λ u. tt
reads after_backslash (x ∷ xs) = λ u. both IsUtf8 (x == 117) _ _ (λ e. reads after_u xs (after_ascii [] x xs (same_byte x 117 (omega arith) e) u))
    (λ _. then IsUtf8 _ (short_escape x) (λ c e. let small = short_small x c e in
    char_ascii c xs small.1 (after_ascii [] x xs small.0 u) (reads plain xs)))
reads after_u [] = λ u. tt
reads after_u (a ∷ []) = λ u. tt
reads after_u (a ∷ b ∷ []) = λ u. tt
reads after_u (a ∷ b ∷ c ∷ []) = λ u. tt
reads after_u (a ∷ b ∷ c ∷ d ∷ xs) = λ u. then IsUtf8 _ (code_unit a b c d) (λ v e. let is = unit_is a b c d v e in let rest = after_four a b c d xs is.small u in
    both IsUtf8 (is_high_surrogate v) _ _ (λ h. reads (after_high v) xs (ltb-true _ _ (and_parts _ _ h).1) rest)
    (λ h. both IsUtf8 (is_low_surrogate v) _ _ (λ _. tt) (λ l. char_then v xs (unit_scalar v is.below h l) rest (reads plain xs))))
reads (after_high h) [] = λ small u. tt
reads (after_high h) (s ∷ []) = λ small u. tt
reads (after_high h) (s ∷ v ∷ []) = λ small u. tt
reads (after_high h) (s ∷ v ∷ a ∷ []) = λ small u. tt
reads (after_high h) (s ∷ v ∷ a ∷ b ∷ []) = λ small u. tt
reads (after_high h) (s ∷ v ∷ a ∷ b ∷ c ∷ []) = λ small u. tt
reads (after_high h) (s ∷ v ∷ a ∷ b ∷ c ∷ d ∷ xs) = λ small u. both IsUtf8 ((s == 92) && (v == 117)) _ _ (λ e. let p = and_parts _ _ e in
    let tail = after_ascii [] v (a ∷ b ∷ c ∷ d ∷ xs) (same_byte v 117 (omega arith) p.1) (after_ascii [] s (v ∷ a ∷ b ∷ c ∷ d ∷ xs) (same_byte s 92 (omega arith) p.0) u) in
    then IsUtf8 _ (code_unit a b c d) (λ l f. let is = unit_is a b c d l f in both IsUtf8 (is_low_surrogate l) _ _
    (λ low. char_then (surrogate_pair h l) xs (pair_scalar h l small low) (after_four a b c d xs is.small tail) (reads plain xs)) (λ _. tt))) (λ _. tt)

-- the content of a string is UTF-8
pub content_utf8 : (xs : List ℕ) → IsUtf8 xs → Each IsUtf8 (content plain xs)
content_utf8 xs u = reads plain xs [] u

-- what stands after a quote of a text
pub after_quote : (p : List ℕ) (x : ℕ) (xs : List ℕ) → x ≡ 34 → IsUtf8 (p ++ x ∷ xs) → IsUtf8 xs
after_quote p x xs is u = after_ascii p x xs (omega arith) u
