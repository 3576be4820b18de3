-- A value is no larger than the tokens that it was parsed from.
use Rattle.std.proofs.Common.{◌≡◌, ℕ, zero, suc, ◌+◌, ◌≤◌, List, [], ◌∷◌, length, Option, Some, None, option_map, option_and_then, Ordering, Less, Equal, Greater, refl, ap, subst, arith}
use Rattle.std.specs.Prelude.{⊤}
use Rattle.std.specs.Ordering.{match_ordering}
use Rattle.json.specs.Token.{Token}
use Rattle.json.specs.Lex.{tokens}
use Rattle.json.specs.Json as json
use Rattle.json.specs.Json.{Parse, parse_map, after_end_array, read_key, items_step, members_step, items, members, value_with, value}
use Rattle.serde_json.specs.Data.{Data, number, array, object, item, Members, no_members, member, put}
use Rattle.serde_json.specs.Read.{number_of, of_json, of_items, of_members, max_depth, read}
use Rattle.dcr_format.specs.Size.{size, items_size, members_size}
use Rattle.dcr_format.proofs.Lexed.{weights, weights-tokens}

-- ---- what the grammar reads

abbrev mutual
  json_size : json.Json → ℕ
  json_size json.null = 1
  json_size (json.boolean b) = 1
  json_size (json.number s) = 1
  json_size (json.string s) = 1 + length s
  json_size (json.array js) = 1 + json_items_size js
  json_size (json.object ms) = 1 + json_members_size ms

  json_items_size : json.Items → ℕ
  json_items_size json.no_items = 0
  json_items_size (json.item j js) = json_size j + json_items_size js

  json_members_size : json.Members → ℕ
  json_members_size json.no_members = 0
  json_members_size (json.member k j ms) = length k + json_size j + json_members_size ms

-- what was read and what is left are no larger than n
abbrev AtMost : {A : Type 0} → (A → ℕ) → ℕ → Option (A × List Token) → Type 0
AtMost f n None = ⊤
AtMost f n (Some p) = f p.0 + weights p.1 ≤ n

abbrev Weighs : {A : Type 0} → (A → ℕ) → Parse A → Type 0
Weighs f p = (ts : List Token) → AtMost f (weights ts) (p ts)

mapped : {A B : Type 0} (f : A → ℕ) (g : B → ℕ) (m n more : ℕ) (h : A → B) → ((a : A) → g (h a) ≤ more + f a) → more + m ≤ n → (o : Option (A × List Token)) → AtMost f m o → AtMost g n (parse_map h o)
mapped f g m n more h k le None x = tt
mapped f g m n more h k le (Some p) x = omega (arith, k p.0)

and_more : {B : Type 0} (g : B → ℕ) (n extra : ℕ) (h : json.Json → B → B) → ((j : json.Json) (b : B) → g (h j b) ≤ extra + json_size j + g b) → (more : Parse B) → Weighs g more
    → (o : Option (json.Json × List Token)) → AtMost json_size n o → AtMost g (extra + n) (option_and_then (λ q. parse_map (h q.0) (more q.1)) o)
and_more g n extra h is more within None x = tt
and_more g n extra h is more within (Some q) x = mapped g g (weights q.1) (extra + n) (extra + json_size q.0) (h q.0) (λ b. is q.0 b) (omega arith) (more q.1) (within q.1)

closed : (ts r : List Token) → after_end_array ts ≡ Some r → weights r ≤ weights ts
closed [] r e = absurd cc
closed (Token.begin_object ∷ ts) r e = absurd cc
closed (Token.end_object ∷ ts) r e = absurd cc
closed (Token.begin_array ∷ ts) r e = absurd cc
closed (Token.end_array ∷ ts) r e = let same : ts ≡ r = cc in omega (arith, ap weights same)
closed (Token.key s ∷ ts) r e = absurd cc
closed (Token.string s ∷ ts) r e = absurd cc
closed (Token.number s ∷ ts) r e = absurd cc
closed (Token.boolean b ∷ ts) r e = absurd cc
closed (Token.null ∷ ts) r e = absurd cc
closed (Token.bad ∷ ts) r e = absurd cc

abbrev key_size : Option (List ℕ) → ℕ
key_size None = 0
key_size (Some k) = length k

keyed : (ts : List Token) → AtMost key_size (weights ts) (read_key ts)
keyed [] = tt
keyed (Token.begin_object ∷ ts) = tt
keyed (Token.end_object ∷ ts) = omega arith
keyed (Token.begin_array ∷ ts) = tt
keyed (Token.end_array ∷ ts) = tt
keyed (Token.key s ∷ ts) = omega arith
keyed (Token.string s ∷ ts) = tt
keyed (Token.number s ∷ ts) = tt
keyed (Token.boolean b ∷ ts) = tt
keyed (Token.null ∷ ts) = tt
keyed (Token.bad ∷ ts) = tt

weaker : {A : Type 0} (f : A → ℕ) (m n : ℕ) (o : Option (A × List Token)) → AtMost f m o → m ≤ n → AtMost f n o
weaker f m n None x le = tt
weaker f m n (Some p) x le = omega arith

module _ (p : Parse json.Json) (weighs : Weighs json_size p) where
  item_turn : (more : Parse json.Items) → Weighs json_items_size more → (ts : List Token) (o : Option (List Token)) → after_end_array ts ≡ o → AtMost json_items_size (weights ts) (items_step p more ts o)
  item_turn more again ts (Some r) e = omega (arith, closed ts r e)
  item_turn more again ts None e = weaker json_items_size _ _ _ (and_more json_items_size (weights ts) 0 json.item (λ j b. omega arith) more again (p ts) (weighs ts)) (omega arith)

  Weighs-items : (n : ℕ) → Weighs json_items_size (items p n)
  unfolding items
  Weighs-items zero ts = tt
  Weighs-items (suc n) ts = item_turn (items p n) (Weighs-items n) ts (after_end_array ts) refl

  member_turn : (more : Parse json.Members) → Weighs json_members_size more → (n : ℕ) (o : Option (Option (List ℕ) × List Token)) → AtMost key_size n o → AtMost json_members_size n (option_and_then (λ q. members_step p more q.0 q.1) o)
  member_turn more again n None x = tt
  member_turn more again n (Some (None, s)) x = omega arith
  member_turn more again n (Some (Some k, s)) x = weaker json_members_size _ _ _ (and_more json_members_size (weights s) (length k) (json.member k) (λ j b. omega arith) more again (p s) (weighs s)) (omega arith)

  Weighs-members : (n : ℕ) → Weighs json_members_size (members p n)
  unfolding members
  Weighs-members zero ts = tt
  Weighs-members (suc n) ts = member_turn (members p n) (Weighs-members n) (weights ts) (read_key ts) (keyed ts)

one_level : (a : Parse json.Items) (o : Parse json.Members) → Weighs json_items_size a → Weighs json_members_size o → Weighs json_size (value_with a o)
one_level a o p q [] = tt
one_level a o p q (Token.begin_object ∷ ts) = mapped json_members_size json_size (weights ts) (1 + weights ts) 1 json.object (λ ms. omega arith) (omega arith) (o ts) (q ts)
one_level a o p q (Token.end_object ∷ ts) = tt
one_level a o p q (Token.begin_array ∷ ts) = mapped json_items_size json_size (weights ts) (1 + weights ts) 1 json.array (λ js. omega arith) (omega arith) (a ts) (p ts)
one_level a o p q (Token.end_array ∷ ts) = tt
one_level a o p q (Token.key s ∷ ts) = tt
one_level a o p q (Token.string s ∷ ts) = omega arith
one_level a o p q (Token.number s ∷ ts) = omega arith
one_level a o p q (Token.boolean b ∷ ts) = omega arith
one_level a o p q (Token.null ∷ ts) = omega arith
one_level a o p q (Token.bad ∷ ts) = tt

Weighs-value : (d : ℕ) → Weighs json_size (value d)
unfolding value
Weighs-value zero = one_level (λ ts. None) (λ ts. None) (λ ts. tt) (λ ts. tt)
Weighs-value (suc d) =
    one_level (λ ts. items (value d) (length ts) ts) (λ ts. members (value d) (length ts) ts) (λ ts. Weighs-items (value d) (Weighs-value d) (length ts) ts) (λ ts. Weighs-members (value d) (Weighs-value d) (length ts) ts)

-- ---- what the data is

abbrev Below : {A : Type 0} → (A → ℕ) → ℕ → Option A → Type 0
Below f n None = ⊤
Below f n (Some a) = f a ≤ n

Below-map : {A B : Type 0} (f : A → ℕ) (g : B → ℕ) (m n : ℕ) (h : A → B) → ((a : A) → f a ≤ m → g (h a) ≤ n) → (o : Option A) → Below f m o → Below g n (option_map h o)
Below-map f g m n h k None x = tt
Below-map f g m n h k (Some a) x = k a x

Below-and_then : {A B : Type 0} (f : A → ℕ) (g : B → ℕ) (m n : ℕ) (h : A → Option B) → ((a : A) → f a ≤ m → Below g n (h a)) → (o : Option A) → Below f m o → Below g n (option_and_then h o)
Below-and_then f g m n h k None x = tt
Below-and_then f g m n h k (Some a) x = k a x

flat : {A : Type 0} (o : Option A) → Below (λ _. 0) 0 o
flat None = tt
flat (Some a) = omega arith

members_size-match_ordering : (o : Ordering) (a b c : Members) (n : ℕ) → members_size a ≤ n → members_size b ≤ n → members_size c ≤ n → members_size (match_ordering o a b c) ≤ n
members_size-match_ordering Less a b c n p q r = p
members_size-match_ordering Equal a b c n p q r = q
members_size-match_ordering Greater a b c n p q r = r

members_size-put : (k : List ℕ) (d : Data) (ms : Members) → members_size (put k d ms) ≤ length k + size d + members_size ms
members_size-put k d no_members = omega arith
members_size-put k d (member l e ms) =
    members_size-match_ordering _ (member k d (member l e ms)) (member l d ms) (member l e (put k d ms)) _ (omega arith) (omega arith) (omega (arith, members_size-put k d ms))

mutual
  size-of_json : (j : json.Json) → Below size (json_size j) (of_json j)
  size-of_json json.null = omega arith
  size-of_json (json.boolean b) = omega arith
  size-of_json (json.number s) = Below-map (λ _. 0) size 0 1 number (λ a x. omega arith) (number_of s) (flat _)
  size-of_json (json.string s) = omega arith
  size-of_json (json.array js) = Below-map items_size size (json_items_size js) (1 + json_items_size js) array (λ a x. omega arith) _ (size-of_items js)
  size-of_json (json.object ms) = Below-map members_size size (json_members_size ms) (1 + json_members_size ms) object (λ a x. omega arith) _ (size-of_members ms no_members (json_members_size ms) (omega arith))

  size-of_items : (js : json.Items) → Below items_size (json_items_size js) (of_items js)
  size-of_items json.no_items = omega arith
  size-of_items (json.item j js) =
      Below-and_then size items_size (json_size j) (json_size j + json_items_size js) _ (λ d x. Below-map items_size items_size (json_items_size js) (json_size j + json_items_size js) (item d) (λ ds y. omega arith) _ (size-of_items js)) _ (size-of_json j)

  size-of_members : (ms : json.Members) (found : Members) (n : ℕ) → json_members_size ms + members_size found ≤ n → Below members_size n (of_members ms found)
  size-of_members json.no_members found n h = omega arith
  size-of_members (json.member name j ms) found n h =
      Below-and_then size members_size (json_size j) n _ (λ d x. size-of_members ms (put name d found) n (omega (arith, members_size-put name d found))) _ (size-of_json j)

last_below : (o : Option (json.Json × List Token)) (n : ℕ) → AtMost json_size n o → Below json_size n (option_and_then (λ p. json.if_last p.0 p.1) o)
last_below None n h = tt
last_below (Some (j, [])) n h = omega arith
last_below (Some (j, t ∷ r)) n h = tt

below_more : (o : Option Data) (m n : ℕ) → Below size m o → m ≤ n → Below size n o
below_more None m n x le = tt
below_more (Some d) m n x le = omega arith

pub size-read : (text : List ℕ) (d : Data) → read text ≡ Some d → size d ≤ length text
size-read text d e =
    subst (Below size (length text)) e (below_more _ (weights (tokens text)) (length text)
    (Below-and_then json_size size (weights (tokens text)) (weights (tokens text)) of_json (λ j x. below_more _ (json_size j) _ (size-of_json j) x) _ (last_below _ (weights (tokens text)) (Weighs-value max_depth (tokens text)))) (weights-tokens text))
