-- Values of strings, arrays and objects with keys in order, and that the text of such a value is read back as the value.
use Rattle.std.proofs.Common.{◌≡◌, ℕ, suc, ◌≤◌, false, ◌||◌, List, [], ◌∷◌, map, Option, Some, option_map, option_and_then, IsUtf8, refl, sym, ap, ◌∙◌, append-nil, arith}
use Rattle.json.specs.Token.{Token}
use Rattle.json.specs.Lex.{tokens}
use Rattle.json.specs.Json as json
use Rattle.json.specs.Tree as tree
use Rattle.json.proofs.Printed.Tokens.{tokens-print}
use Rattle.json.proofs.Printed.Trees.{value-json_tokens, ArePrintable-json_tokens}
use Rattle.serde_json.specs.Data.{Data, string, array, object, Items, no_items, item, no_members, member, put}
use Rattle.serde_json.specs.Read.{read, max_depth, of_json, of_items}
use Rattle.serde_json.specs.View.{items_of}
use Rattle.serde_json.specs.Written.{outline, items_outline, has_float, items_have_float, compact_text}
use Rattle.serde_json.proofs.Texts.{print-outline}
use Rattle.std.proofs.lemmas.Str.{is_utf8-from_IsUtf8}
use Rattle.dcr_format.specs.SizeLaws.{json_in}

-- the value has no number, its keys are in order, and it nests at most n deep
pub record IsPlain (n : ℕ) (d : Data) : Type 0 where
  pub no_float : has_float d ≡ false
  pub numbers : tree.HasNumbers (outline d)
  pub reads : of_json (outline d) ≡ Some d
  pub shallow : tree.depth (outline d) ≤ n

pub record ArePlain (n : ℕ) (ds : Items) : Type 0 where
  pub no_float : items_have_float ds ≡ false
  pub numbers : tree.ItemsHaveNumbers (items_outline ds)
  pub reads : of_items (items_outline ds) ≡ Some ds
  pub shallow : tree.items_depth (items_outline ds) ≤ n

pub plain_string : (n : ℕ) (s : List ℕ) → IsPlain n (string s)
plain_string n s = record { no_float = refl; numbers = tt; reads = refl; shallow = omega arith }

pub no_plain_item : (n : ℕ) → ArePlain n no_items
no_plain_item n = record { no_float = refl; numbers = tt; reads = refl; shallow = omega arith }

pub plain_item : (n : ℕ) (d : Data) (ds : Items) → IsPlain n d → ArePlain n ds → ArePlain n (item d ds)
plain_item n d ds p q = record {
  no_float = ap (λ b. b || items_have_float ds) p.no_float ∙ q.no_float;
  numbers = (p.numbers, q.numbers);
  reads = ap (option_and_then (λ e. option_map (item e) (of_items (items_outline ds)))) p.reads ∙ ap (option_map (item d)) q.reads;
  shallow = let here = p.shallow in let later = q.shallow in omega arith;
}

pub plain_items : {X : Type 0} (n : ℕ) (f : X → Data) → ((x : X) → IsPlain n (f x)) → (xs : List X) → ArePlain n (items_of (map f xs))
plain_items n f h [] = no_plain_item n
plain_items n f h (x ∷ xs) = plain_item n (f x) _ (h x) (plain_items n f h xs)

pub plain_array : (n : ℕ) (ds : Items) → ArePlain n ds → IsPlain (suc n) (array ds)
plain_array n ds q = record {
  no_float = q.no_float;
  numbers = q.numbers;
  reads = ap (option_map array) q.reads;
  shallow = let inside = q.shallow in omega arith;
}

-- an object of two members whose second key is above its first
pub plain_pair : (n : ℕ) (k l : List ℕ) (d e : Data) → put l e (member k d no_members) ≡ member k d (member l e no_members) → IsPlain n d → IsPlain n e
    → IsPlain (suc n) (object (member k d (member l e no_members)))
plain_pair n k l d e above p q = record {
  no_float = ap (λ b. b || (has_float e || false)) p.no_float ∙ ap (λ b. b || false) q.no_float;
  numbers = (p.numbers, (q.numbers, tt));
  reads =
      ap (λ o. option_map object (option_and_then (λ x. option_and_then (λ y. Some (put l y (put k x no_members))) (of_json (outline e))) o)) p.reads
      ∙ ap (λ o. option_map object (option_and_then (λ y. Some (put l y (member k d no_members))) o)) q.reads
      ∙ ap (λ ms. Some (object ms)) above;
  shallow = let here = p.shallow in let later = q.shallow in omega arith;
}

-- an object of three members whose keys ascend
pub plain_triple : (n : ℕ) (k l m : List ℕ) (d e f : Data)
    → put m f (put l e (member k d no_members)) ≡ member k d (member l e (member m f no_members)) → IsPlain n d → IsPlain n e → IsPlain n f
    → IsPlain (suc n) (object (member k d (member l e (member m f no_members))))
plain_triple n k l m d e f above p q r = record {
  no_float =
      ap (λ b. b || (has_float e || (has_float f || false))) p.no_float
      ∙ ap (λ b. b || (has_float f || false)) q.no_float
      ∙ ap (λ b. b || false) r.no_float;
  numbers = (p.numbers, (q.numbers, (r.numbers, tt)));
  reads =
      ap (λ o. option_map object (option_and_then (λ x. option_and_then (λ y. option_and_then (λ z. Some (put m z (put l y (put k x no_members)))) (of_json (outline f))) (of_json (outline e))) o)) p.reads
      ∙ ap (λ o. option_map object (option_and_then (λ y. option_and_then (λ z. Some (put m z (put l y (member k d no_members)))) (of_json (outline f))) o)) q.reads
      ∙ ap (λ o. option_map object (option_and_then (λ z. Some (put m z (put l e (member k d no_members)))) o)) r.reads
      ∙ ap (λ ms. Some (object ms)) above;
  shallow = let first = p.shallow in let second = q.shallow in let third = r.shallow in omega arith;
}

-- what a reader of tokens makes of them
abbrev parsed : Option (json.Json × List Token) → Option Data
parsed o = option_and_then of_json (option_and_then (λ p. json.if_last p.0 p.1) o)

-- the text is read back
pub read_plain : (n : ℕ) (d : Data) → IsPlain n d → n ≤ 127 → read (compact_text d) ≡ Some d
read_plain n d p few =
    let same : tokens (compact_text d) ≡ tree.json_tokens (outline d) =
    ap tokens (sym (print-outline d)) ∙ tokens-print (tree.json_tokens (outline d)) (ArePrintable-json_tokens (outline d) p.numbers) in
    ap (λ ts. parsed (json.value max_depth ts)) (same ∙ sym (append-nil (tree.json_tokens (outline d))))
    ∙ ap parsed (value-json_tokens (outline d) max_depth [] (let shallow = p.shallow in omega arith))
    ∙ p.reads

-- what was written for a value that is this one is its text
pub text_written : (n : ℕ) (d written : Data) (bytes : List ℕ) → IsPlain n d → written ≡ d → (has_float written ≡ false → bytes ≡ compact_text written) → bytes ≡ compact_text d
text_written n d written bytes p same text = text (ap has_float same ∙ p.no_float) ∙ ap compact_text same

-- and is JSON for it
pub json_written : (n : ℕ) (d : Data) (bytes : List ℕ) → IsPlain n d → n ≤ 127 → bytes ≡ compact_text d → IsUtf8 bytes → json_in bytes ≡ Some d
unfolding json_in
json_written n d bytes p few text utf8 = rw (is_utf8-from_IsUtf8 bytes utf8) (ap read text ∙ read_plain n d p few)
