-- How long compact texts are, by their parts.
use Rattle.std.proofs.Common.{◌≡◌, ℕ, suc, ◌+◌, ◌*◌, ◌≤◌, Bool, true, false, List, [], ◌∷◌, ◌++◌, length, map, Some, refl, arith}
use Rattle.std.specs.List.{slice_get}
use Rattle.std.proofs.Math.Nat.{mul-suc, mul-le-mul_left}
use Rattle.std.proofs.lemmas.List.{length-append}
use Rattle.json.specs.Print.{quoted}
use Rattle.serde_json.specs.Data.{Data, Items, no_items, item, Members, member}
use Rattle.serde_json.specs.View.{items_of}
use Rattle.serde_json.specs.Written.{comma_if, compact_text, items_text, members_text}
use Rattle.dcr_format.proofs.EscapeLemmas.{quoted_short}

comma_short : (later : Bool) → length (comma_if later) ≤ 1
comma_short true = omega arith
comma_short false = omega arith

-- one item, and those after it
item_length : (later : Bool) (d : Data) (ds : Items) → length (items_text later (item d ds)) ≡ length (comma_if later) + length (compact_text d) + length (items_text true ds)
item_length later d ds =
    let whole : length (items_text later (item d ds)) ≡ length (comma_if later) + length (compact_text d ++ items_text true ds) = length-append (comma_if later) (compact_text d ++ items_text true ds) in
    let parts : length (compact_text d ++ items_text true ds) ≡ length (compact_text d) + length (items_text true ds) = length-append (compact_text d) (items_text true ds) in omega arith

pub item_short : (later : Bool) (d : Data) (ds : Items) → length (items_text later (item d ds)) ≤ 1 + length (compact_text d) + length (items_text true ds)
item_short later d ds = let whole = item_length later d ds in let comma = comma_short later in omega arith

-- one member, and those after it
member_length : (later : Bool) (k : List ℕ) (d : Data) (ms : Members)
    → length (members_text later (member k d ms)) ≡ length (comma_if later) + length (quoted k) + 1 + length (compact_text d) + length (members_text true ms)
member_length later k d ms =
    let rest = compact_text d ++ members_text true ms in
    let whole : length (members_text later (member k d ms)) ≡ length (comma_if later) + length (quoted k ++ 58 ∷ rest) = length-append (comma_if later) (quoted k ++ 58 ∷ rest) in
    let key : length (quoted k ++ 58 ∷ rest) ≡ length (quoted k) + suc (length rest) = length-append (quoted k) (58 ∷ rest) in
    let parts : length rest ≡ length (compact_text d) + length (members_text true ms) = length-append (compact_text d) (members_text true ms) in omega arith

pub member_short : (later : Bool) (k : List ℕ) (d : Data) (ms : Members) → length (members_text later (member k d ms)) ≤ 4 + 6 * length k + length (compact_text d) + length (members_text true ms)
member_short later k d ms = let whole = member_length later k d ms in let comma = comma_short later in let name = quoted_short k in omega arith

-- items of at most c bytes each
pub items_short : {X : Type 0} (c : ℕ) (f : X → Data) (xs : List X) → ((i : ℕ) (x : X) → slice_get xs i ≡ Some x → length (compact_text (f x)) ≤ c)
    → (later : Bool) → length (items_text later (items_of (map f xs))) ≤ 1 + (c + 1) * length xs
items_short c f [] h later = let none : length (items_text later no_items) ≡ 1 = refl in omega arith
items_short c f (x ∷ xs) h later =
    let one = item_short later (f x) (items_of (map f xs)) in
    let here = h 0 x refl in
    let more = items_short c f xs (λ i y is. h (suc i) y is) true in
    let product = mul-suc (c + 1) (length xs) in omega arith

-- at most n items of at most c bytes each: the first has no comma, in whose place the closing bracket counts
pub list_short : {X : Type 0} (c n : ℕ) (f : X → Data) (xs : List X) → ((i : ℕ) (x : X) → slice_get xs i ≡ Some x → length (compact_text (f x)) ≤ c)
    → 1 ≤ n → length xs ≤ n → length (items_text false (items_of (map f xs))) ≤ (c + 1) * n
list_short c n f [] h some few = let none : length (items_text false no_items) ≡ 1 = refl in let most = mul-le-mul_left (c + 1) some in omega arith
list_short c n f (x ∷ xs) h some few =
    let one = item_length false (f x) (items_of (map f xs)) in
    let here = h 0 x refl in
    let more = items_short c f xs (λ i y is. h (suc i) y is) true in
    let product = mul-suc (c + 1) (length xs) in
    let most : (c + 1) * suc (length xs) ≤ (c + 1) * n = mul-le-mul_left (c + 1) few in omega arith
