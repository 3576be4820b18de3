-- The compact text of a value whose keys and strings are UTF-8 is UTF-8.
use Rattle.std.proofs.Common.{ℕ, zero, suc, Bool, true, false, List, [], ◌∷◌, ◌++◌, map, get_or, IsUtf8, refl}
use Rattle.std.specs.Prelude.{⊤}
use Rattle.std.specs.List.{AllByRecursion}
use Rattle.std.proofs.lemmas.Str.{IsUtf8-append, IsUtf8-nil}
use Rattle.json.specs.Print.{quoted}
use Rattle.json.proofs.Printed.Utf8.{IsUtf8-are_ascii, IsUtf8-quoted, IsUtf8-boolean}
use Rattle.serde_json.specs.Data.{Data, null, boolean, number, string, array, object, Items, no_items, item, Members, no_members, member}
use Rattle.serde_json.specs.View.{items_of}
use Rattle.serde_json.specs.Written.{comma_if, compact_text, items_text, members_text}

-- no number, and each key and each string is UTF-8
abbrev mutual
  pub IsUtf8Value : Data → Type 0
  IsUtf8Value null = ⊤
  IsUtf8Value (boolean b) = ⊤
  IsUtf8Value (number n) = ⊥
  IsUtf8Value (string s) = IsUtf8 s
  IsUtf8Value (array ds) = AreUtf8Items ds
  IsUtf8Value (object ms) = AreUtf8Members ms

  pub AreUtf8Items : Items → Type 0
  AreUtf8Items no_items = ⊤
  AreUtf8Items (item d ds) = IsUtf8Value d × AreUtf8Items ds

  pub AreUtf8Members : Members → Type 0
  AreUtf8Members no_members = ⊤
  AreUtf8Members (member k d ms) = IsUtf8 k × IsUtf8Value d × AreUtf8Members ms

comma_utf8 : (later : Bool) → IsUtf8 (comma_if later)
comma_utf8 true = IsUtf8-are_ascii (44 ∷ []) refl
comma_utf8 false = IsUtf8-nil

mutual
  pub value_utf8 : (d : Data) → IsUtf8Value d → IsUtf8 (compact_text d)
  value_utf8 null h = IsUtf8-are_ascii (110 ∷ 117 ∷ 108 ∷ 108 ∷ []) refl
  value_utf8 (boolean b) h = IsUtf8-boolean b
  value_utf8 (number n) h = absurd h
  value_utf8 (string s) h = IsUtf8-quoted s h
  value_utf8 (array ds) h = IsUtf8-append (91 ∷ []) (items_text false ds) (IsUtf8-are_ascii (91 ∷ []) refl) (items_utf8 false ds h)
  value_utf8 (object ms) h = IsUtf8-append (123 ∷ []) (members_text false ms) (IsUtf8-are_ascii (123 ∷ []) refl) (members_utf8 false ms h)

  items_utf8 : (later : Bool) (ds : Items) → AreUtf8Items ds → IsUtf8 (items_text later ds)
  items_utf8 later no_items h = IsUtf8-are_ascii (93 ∷ []) refl
  items_utf8 later (item d ds) h =
      IsUtf8-append (comma_if later) (compact_text d ++ items_text true ds) (comma_utf8 later) (IsUtf8-append (compact_text d) (items_text true ds) (value_utf8 d h.0) (items_utf8 true ds h.1))

  members_utf8 : (later : Bool) (ms : Members) → AreUtf8Members ms → IsUtf8 (members_text later ms)
  members_utf8 later no_members h = IsUtf8-are_ascii (125 ∷ []) refl
  members_utf8 later (member k d ms) h =
      let rest = compact_text d ++ members_text true ms in
      IsUtf8-append (comma_if later) (quoted k ++ 58 ∷ rest) (comma_utf8 later)
      (IsUtf8-append (quoted k) (58 ∷ rest) (IsUtf8-quoted k h.0)
      (IsUtf8-append (58 ∷ []) rest (IsUtf8-are_ascii (58 ∷ []) refl) (IsUtf8-append (compact_text d) (members_text true ms) (value_utf8 d h.1) (members_utf8 true ms h.2))))

-- ---- lists

pub all_utf8 : {X : Type 0} (f : X → Data) → ((x : X) → IsUtf8Value (f x)) → (xs : List X) → AreUtf8Items (items_of (map f xs))
all_utf8 f h [] = tt
all_utf8 f h (x ∷ xs) = (h x, all_utf8 f h xs)

pub name_utf8 : (names : List (List ℕ)) → AllByRecursion IsUtf8 names → (x : ℕ) → IsUtf8 (get_or names x [])
name_utf8 [] all x = IsUtf8-nil
name_utf8 (name ∷ names) all zero = all.0
name_utf8 (name ∷ names) all (suc x) = name_utf8 names all.1 x
