-- What a size bounds.
use Rattle.std.proofs.Common.{◌≡◌, ℕ, zero, suc, ◌+◌, ◌<◌, ◌≤◌, Bool, true, false, cond, List, [], ◌∷◌, length, get_or, Option, Some, None, Ordering, Less, Equal, Greater, ap, subst, arith}
use Rattle.std.specs.Ordering.{nat_cmp, match_ordering}
use Rattle.std.specs.Cmp.Lexicographic.{slice_cmp}
use Rattle.std.specs.Str.{is_utf8}
use Rattle.serde_json.specs.Data.{Data, null, boolean, number, string, array, object, Members, no_members, member}
use Rattle.serde_json.specs.Find.{get, get_member, as_str, as_array}
use Rattle.serde_json.specs.Read.{read}
use Rattle.serde_json.specs.View.{view, items_view}
use Rattle.serde_json.specs.declared.value.Value.{Value}
use Rattle.dcr_format.specs.Size.{size, items_size, members_size}
use Rattle.dcr_format.specs.SizeLaws.{json_in, AreSmaller, NoValueIsLarger, PartsAreSmaller}
use Rattle.dcr_format.proofs.Parsed.{size-read}

either : (b : Bool) (o : Option Data) (d : Data) → cond b o None ≡ Some d → o ≡ Some d
either true o d e = e
either false o d e = absurd cc

pub size-text : (text : List ℕ) (d : Data) → read text ≡ Some d → size d ≤ length text
size-text = size-read

pub size-json_in : (bytes : List ℕ) (d : Data) → json_in bytes ≡ Some d → size d ≤ length bytes
unfolding json_in
size-json_in bytes d e = size-read bytes d (either (is_utf8 bytes) (read bytes) d e)

pub no_value_is_larger : NoValueIsLarger
no_value_is_larger = record { of_text = size-read; of_bytes = size-json_in }

pub size-some : (d : Data) → 0 < size d
size-some null = omega arith
size-some (boolean b) = omega arith
size-some (number n) = omega arith
size-some (string s) = omega arith
size-some (array ds) = omega arith
size-some (object ms) = omega arith

member_turn : (o : Ordering) (r : Option Data) (e part : Data) (n : ℕ) → (r ≡ Some part → size part ≤ n) → size e ≤ n → match_ordering o r (Some e) r ≡ Some part → size part ≤ n
member_turn Less r e part n h le is = h is
member_turn Equal r e part n h le is = let same : e ≡ part = cc in subst (λ (d : Data). size d ≤ n) same le
member_turn Greater r e part n h le is = h is

size-get_member : (name : List ℕ) (ms : Members) (part : Data) → get_member name ms ≡ Some part → size part ≤ members_size ms
size-get_member name no_members part e = absurd cc
size-get_member name (member k d ms) part e =
    member_turn (slice_cmp nat_cmp name k) (get_member name ms) d part _ (λ later. omega (arith, size-get_member name ms part later)) (omega arith) e

-- a member is smaller than its object
pub size-get : (name : List ℕ) (d part : Data) → get name d ≡ Some part → size part < size d
size-get name null part e = absurd cc
size-get name (boolean b) part e = absurd cc
size-get name (number n) part e = absurd cc
size-get name (string s) part e = absurd cc
size-get name (array ds) part e = absurd cc
size-get name (object ms) part e = omega (arith, size-get_member name ms part e)

-- there are no more elements than they are large
pub length-items : (vs : List Value) → length vs ≤ items_size (items_view vs)
length-items [] = omega arith
length-items (v ∷ vs) = omega (arith, length-items vs, size-some (view v))

-- an element is no larger than all of them
pub size-item : (vs : List Value) (k : ℕ) (v : Value) → k < length vs → size (view (get_or vs k v)) ≤ items_size (items_view vs)
size-item [] k v l = absurd (omega arith)
size-item (w ∷ vs) zero v l = omega arith
size-item (w ∷ vs) (suc k) v l = omega (arith, size-item vs k v (omega arith))

smaller_items : (vs : List Value) (n : ℕ) → 1 + items_size (items_view vs) ≤ n → AreSmaller vs n
smaller_items vs n h = record {
  total = omega arith;
  fewer = omega (arith, length-items vs);
  smaller = λ k v l. omega (arith, size-item vs k v l);
}

-- the elements of an array are fewer than its size, and smaller than it
pub size-elements : (d : Data) (vs : List Value) → as_array d ≡ Some (items_view vs) → AreSmaller vs (size d)
size-elements null vs e = absurd cc
size-elements (boolean b) vs e = absurd cc
size-elements (number n) vs e = absurd cc
size-elements (string s) vs e = absurd cc
size-elements (array ds) vs e = let same : ds ≡ items_view vs = cc in smaller_items vs (size (array ds)) (omega (arith, ap items_size same))
size-elements (object ms) vs e = absurd cc

-- a string has fewer bytes than its size
pub length-as_str : (d : Data) (text : List ℕ) → as_str d ≡ Some text → length text < size d
length-as_str null text e = absurd cc
length-as_str (boolean b) text e = absurd cc
length-as_str (number n) text e = absurd cc
length-as_str (string s) text e = let same : s ≡ text = cc in subst (λ (t : List ℕ). length t < 1 + length s) same (omega arith)
length-as_str (array ds) text e = absurd cc
length-as_str (object ms) text e = absurd cc

pub smaller_parts : PartsAreSmaller
smaller_parts = record { some = size-some; members = size-get; elements = size-elements; strings = length-as_str }
