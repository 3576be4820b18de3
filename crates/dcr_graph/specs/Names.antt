-- Names and labels as bytes of text, and the number that a name stands for in a list of names.
use Rattle.std.specs.Prelude.{◌≡◌, ℕ, ◌<◌, Bool, false, ◌&&◌, ◌||◌, ◌==◌, List, [], ◌∷◌, ◌++◌, codes, length, Option, nat_le, slice_index_or}
use Rattle.std.specs.List.{flat_map, list_all}
use Rattle.std.specs.Str.{bytes_eq}
use Rattle.dcr_set.specs.Least.{least}

abbrev pub is_between : ℕ → ℕ → ℕ → Bool
is_between low high byte = nat_le low byte && nat_le byte high

-- A to Z or a to z
abbrev pub is_letter : ℕ → Bool
is_letter byte = is_between 65 90 byte || is_between 97 122 byte

-- a letter, a digit, `_`, `-` or `.`
abbrev pub is_name_byte : ℕ → Bool
is_name_byte byte = is_letter byte || (is_between 48 57 byte || (byte == 95 || (byte == 45 || byte == 46)))

-- a letter and at most 63 name bytes after it
abbrev pub is_name : List ℕ → Bool
is_name [] = false
is_name (first ∷ rest) = is_letter first && (nat_le (length rest) 63 && list_all is_name_byte rest)

-- at most 200 bytes
abbrev pub is_label : List ℕ → Bool
is_label text = nat_le (length text) 200

-- the number of the first name that is this text
abbrev pub number_of : List (List ℕ) → List ℕ → Option ℕ
number_of names text = least (length names) (λ k. bytes_eq (slice_index_or names k []) text)

-- no two names are one text
abbrev pub AreDistinct : List (List ℕ) → Type 0
AreDistinct names = (i j : ℕ) → i < j → j < length names → bytes_eq (slice_index_or names i []) (slice_index_or names j []) ≡ false

-- the names of these numbers, each behind a comma
abbrev pub comma_names : List (List ℕ) → List ℕ → List ℕ
comma_names names numbers = flat_map (λ k. codes "," ++ slice_index_or names k []) numbers
