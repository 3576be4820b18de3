-- A line as its words, and reading them from the front: each definition gives what it reads and the words behind it.
use Rattle.std.specs.Prelude.{ℕ, List, [], ◌∷◌, Option, Some, None, option_map, option_and_then, if◌then◌else◌}
use Rattle.std.specs.Str.{bytes_eq}
use Rattle.dcr_graph.specs.Names.{number_of}
use Rattle.dcr_text.specs.Lines.{pieces_of}

infixl 10 ◌>>=◌
-- the next step, where this one gave something
abbrev pub ◌>>=◌ : {A B : Type 0} → Option A → (A → Option B) → Option B
o >>= f = option_and_then f o

-- the words of a line: what stands between its spaces
abbrev pub words_of : List ℕ → List (List ℕ)
words_of line = pieces_of 32 line

-- what is read from the front of words, and the words behind it
abbrev pub Front : Type 0 → Type 0
Front A = Option (A × List (List ℕ))

-- this, where no word is behind it
abbrev pub where_last : {A : Type 0} → A → List (List ℕ) → Option A
where_last a [] = Some a
where_last a (word ∷ rest) = None

-- what all the words are
abbrev pub all_of : {A : Type 0} → Front A → Option A
all_of front = option_and_then (λ read. where_last read.0 read.1) front

-- what the first word is, by this reading of a word
unfoldable pub first_by : {A : Type 0} → (List ℕ → Option A) → List (List ℕ) → Front A
first_by read [] = None
first_by read (word ∷ rest) = option_map (λ a. (a, rest)) (read word)

-- the number of the name that the first word is
abbrev pub name_from : List (List ℕ) → List (List ℕ) → Front ℕ
name_from names words = first_by (number_of names) words

-- the words behind this word
unfoldable pub words_behind : List ℕ → List (List ℕ) → Option (List (List ℕ))
words_behind known [] = None
words_behind known (word ∷ rest) = if bytes_eq word known then Some rest else None
