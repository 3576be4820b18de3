-- A text cut into pieces at a separator, and into lines.
use Rattle.std.specs.Prelude.{ℕ, Bool, true, false, ◌&&◌, ◌==◌, List, [], ◌∷◌, Option, Some, None, if◌then◌else◌}
use Rattle.std.specs.Str.{bytes_eq}
use Rattle.std.specs.List.{slice_split}

-- the pieces of a text, cut at each separator: one at least
abbrev pub pieces_of : ℕ → List ℕ → List (List ℕ)
pieces_of separator text = slice_split (λ byte. byte == separator) text

-- the bytes up to a line end; or those behind the last line end, which are a line without its end
pub record Line : Type 0 where
  pub text : List ℕ
  pub ended : Bool

abbrev pub line_of : List ℕ → Bool → Line
line_of text ended = record { text = text; ended = ended }

-- what is behind the last line end: no line, where there is nothing
abbrev pub unended : List ℕ → List Line
unended [] = []
unended (byte ∷ bytes) = line_of (byte ∷ bytes) false ∷ []

-- the lines, from the pieces between line ends: each but the last has its end
unfoldable pub lines_in : List (List ℕ) → List Line
lines_in [] = []
lines_in (last ∷ []) = unended last
lines_in (text ∷ (next ∷ pieces)) = line_of text true ∷ lines_in (next ∷ pieces)

-- the lines of a text
abbrev pub lines_of : List ℕ → List Line
lines_of bytes = lines_in (pieces_of 10 bytes)

-- the text of a line that has its end
abbrev pub whole : Line → Option (List ℕ)
whole line = if line.ended then Some line.text else None

-- the line has its end, and is this text
abbrev pub says : List ℕ → Line → Bool
says text line = line.ended && bytes_eq line.text text
