-- JSON values without floats, and those whose compact text is UTF-8 and is read back as the value.
use Rattle.std.proofs.Common.{◌≡◌, ℕ, suc, ◌<◌, ◌≤◌, ◌^◌, Bool, true, false, ◌||◌, List, [], ◌∷◌, map, Some, option_map, IsUtf8, refl, ap, ◌∙◌, arith}
use Rattle.std.specs.List.{All}
use Rattle.std.specs.Option.{option_and_then}
use Rattle.std.proofs.lemmas.Fmt.{IsAscii-decimal}
use Rattle.std.proofs.lemmas.Str.{IsUtf8-append, IsUtf8-from_ascii, IsUtf8-nil}
use Rattle.json.specs.Tree as tree
use Rattle.json.specs.Print.{quoted}
use Rattle.json.proofs.Printed.Decimals.{IsNumber-decimal}
use Rattle.json.proofs.Printed.Utf8.{IsUtf8-are_ascii, IsUtf8-boolean, IsUtf8-quoted}
use Rattle.serde_json.specs.Data.{Data, boolean, number, string, array, object, Items, no_items, item, Members, no_members, member, put}
use Rattle.serde_json.specs.Read.{of_members}
use Rattle.serde_json.specs.View.{items_of}
use Rattle.serde_json.specs.Written.{compact_text, comma_if, items_text, members_text, members_outline, has_float, items_have_float, members_have_float}
use Rattle.serde_json.proofs.Numbers.{number_of-decimal}
use Rattle.dcr_format.specs.SizeLaws.{json_in}
use Rattle.dcr_format.proofs.PlainLemmas.{IsPlain, ArePlain, plain_string, no_plain_item, plain_item, plain_array, json_written}
use Rattle.dcr_part.specs.PartText.{number_value}

-- ---- no floats

pub neither : (a b : Bool) → a ≡ false → b ≡ false → (a || b) ≡ false
neither a b p q = ap (λ t. t || b) p ∙ q

pub no_float_in : {X : Type 0} (f : X → Data) → ((x : X) → has_float (f x) ≡ false) → (xs : List X) → items_have_float (items_of (map f xs)) ≡ false
no_float_in f none [] = refl
no_float_in f none (x ∷ xs) = neither _ _ (none x) (no_float_in f none xs)

-- ---- read back

-- the value has no float, its keys are in order, it nests at most n deep, and its text is UTF-8
pub record IsRead (n : ℕ) (d : Data) : Type 0 where
  pub plain : IsPlain n d
  pub utf8 : IsUtf8 (compact_text d)

pub record AreRead (n : ℕ) (ds : Items) : Type 0 where
  pub plain : ArePlain n ds
  pub utf8 : (later : Bool) → IsUtf8 (items_text later ds)

-- these members, read behind those that were found, make the whole
pub record AreReadMembers (n : ℕ) (found ms whole : Members) : Type 0 where
  pub no_float : members_have_float ms ≡ false
  pub numbers : tree.MembersHaveNumbers (members_outline ms)
  pub reads : of_members (members_outline ms) found ≡ Some whole
  pub shallow : tree.members_depth (members_outline ms) ≤ n
  pub utf8 : (later : Bool) → IsUtf8 (members_text later ms)

comma_utf8 : (later : Bool) → IsUtf8 (comma_if later)
comma_utf8 true = IsUtf8-are_ascii (44 ∷ []) refl
comma_utf8 false = IsUtf8-nil

pub read_number : (n k : ℕ) → k < 2 ^ 64 → IsRead n (number_value k)
read_number n k small = record {
  plain = record { no_float = refl; numbers = IsNumber-decimal k small; reads = ap (option_map number) (number_of-decimal k small); shallow = omega arith };
  utf8 = IsUtf8-from_ascii _ (IsAscii-decimal k small);
}

pub read_boolean : (n : ℕ) (b : Bool) → IsRead n (boolean b)
read_boolean n b = record { plain = record { no_float = refl; numbers = tt; reads = refl; shallow = omega arith }; utf8 = IsUtf8-boolean b }

pub read_string : (n : ℕ) (s : List ℕ) → IsUtf8 s → IsRead n (string s)
read_string n s text = record { plain = plain_string n s; utf8 = IsUtf8-quoted s text }

pub no_item : (n : ℕ) → AreRead n no_items
no_item n = record { plain = no_plain_item n; utf8 = λ later. IsUtf8-are_ascii (93 ∷ []) refl }

pub one_item : (n : ℕ) (d : Data) (ds : Items) → IsRead n d → AreRead n ds → AreRead n (item d ds)
one_item n d ds here rest = record {
  plain = plain_item n d ds here.plain rest.plain;
  utf8 = λ later. IsUtf8-append (comma_if later) _ (comma_utf8 later) (IsUtf8-append (compact_text d) (items_text true ds) here.utf8 (rest.utf8 true));
}

pub each_item : {X : Type 0} (n : ℕ) (f : X → Data) (xs : List X) → All (λ x. IsRead n (f x)) xs → AreRead n (items_of (map f xs))
each_item n f [] all = no_item n
each_item n f (x ∷ xs) all = one_item n (f x) _ (all 0 x (omega arith)) (each_item n f xs (λ k d within. all (suc k) d (omega arith)))

pub read_array : (n : ℕ) (ds : Items) → AreRead n ds → IsRead (suc n) (array ds)
read_array n ds all = record {
  plain = plain_array n ds all.plain;
  utf8 = IsUtf8-append (91 ∷ []) (items_text false ds) (IsUtf8-are_ascii (91 ∷ []) refl) (all.utf8 false);
}

pub no_member : (n : ℕ) (found : Members) → AreReadMembers n found no_members found
no_member n found = record { no_float = refl; numbers = tt; reads = refl; shallow = omega arith; utf8 = λ later. IsUtf8-are_ascii (125 ∷ []) refl }

pub one_member : (n : ℕ) (k : List ℕ) (d : Data) (found ms whole : Members) → IsUtf8 k → IsRead n d → AreReadMembers n (put k d found) ms whole → AreReadMembers n found (member k d ms) whole
one_member n k d found ms whole key here rest = record {
  no_float = neither _ _ here.plain.no_float rest.no_float;
  numbers = (here.plain.numbers, rest.numbers);
  reads = ap (option_and_then (λ e. of_members (members_outline ms) (put k e found))) here.plain.reads ∙ rest.reads;
  shallow = let this = here.plain.shallow in let later = rest.shallow in omega arith;
  utf8 = λ later. IsUtf8-append (comma_if later) _ (comma_utf8 later)
      (IsUtf8-append (quoted k) _ (IsUtf8-quoted k key) (IsUtf8-append (58 ∷ []) _ (IsUtf8-are_ascii (58 ∷ []) refl)
      (IsUtf8-append (compact_text d) (members_text true ms) here.utf8 (rest.utf8 true))));
}

pub read_object : (n : ℕ) (ms : Members) → AreReadMembers n no_members ms ms → IsRead (suc n) (object ms)
read_object n ms all = record {
  plain = record { no_float = all.no_float; numbers = all.numbers; reads = ap (option_map object) all.reads; shallow = let inside = all.shallow in omega arith };
  utf8 = IsUtf8-append (123 ∷ []) (members_text false ms) (IsUtf8-are_ascii (123 ∷ []) refl) (all.utf8 false);
}

pub read_back : (n : ℕ) (d : Data) → IsRead n d → n ≤ 127 → json_in (compact_text d) ≡ Some d
read_back n d it few = json_written n d (compact_text d) it.plain few refl it.utf8
