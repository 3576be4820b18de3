-- Bytes that come piece by piece, cut into lines.
use Rattle.std.specs.Prelude.{◌≡◌, ◌==◌, ◌⊎◌, ℕ, ◌+◌, ◌-◌, ◌≤◌, Bool, true, false, List, [], ◌∷◌, ◌++◌, length, take, get_or, if◌then◌else◌}
use Rattle.std.specs.List.{All}
use Rattle.dcr_text.specs.declared.cutter.Cut.{Cut}
use Rattle.dcr_text.specs.declared.cutter.Cut.TheVariants.{More, Line, TooLong}

-- what a cutter has seen since the last line end; where a line was cut off just now, what it has
pub record Cutter : Type 0 where
  -- how many bytes a line has at most
  pub limit : ℕ
  pub bytes : List ℕ
  -- a line was cut off
  pub is_line : Bool
  -- one byte more than a line may have came without a line end
  pub is_long : Bool

-- the bytes of the line that is not cut off yet
abbrev pub begun : Cutter → List ℕ
begun cutter = if cutter.is_line then [] else cutter.bytes

-- no byte is a line end
abbrev pub HasNoEnd : List ℕ → Type 0
HasNoEnd bytes = All (λ byte. (byte == 10) ≡ false) bytes

-- the piece goes on to a line end, with at most so many bytes before it, and was used up to there
pub record CutsLine (before : Cutter) (piece : List ℕ) (used : ℕ) (after : Cutter) : Type 0 where
  pub goes_on : before.is_long ≡ false
  pub head : List ℕ
  pub rest : List ℕ
  pub piece_is : piece ≡ head ++ 10 ∷ rest
  pub no_end : HasNoEnd head
  pub fits : length (begun before ++ head) ≤ before.limit
  pub used_is : used ≡ length head + 1
  pub after_is : after ≡ record { limit = before.limit; bytes = begun before ++ head; is_line = true; is_long = false }

-- the piece ends before its line does, and was used whole
pub record TakesAll (before : Cutter) (piece : List ℕ) (used : ℕ) (after : Cutter) : Type 0 where
  pub goes_on : before.is_long ≡ false
  pub no_end : HasNoEnd piece
  pub fits : length (begun before ++ piece) ≤ before.limit
  pub used_is : used ≡ length piece
  pub after_is : after ≡ record { limit = before.limit; bytes = begun before ++ piece; is_line = false; is_long = false }

-- with the front of the piece that was used the line has one byte more than it may have, and no line end among them
pub record FindsLong (before : Cutter) (piece : List ℕ) (used : ℕ) (after : Cutter) : Type 0 where
  pub goes_on : before.is_long ≡ false
  pub head : List ℕ
  pub rest : List ℕ
  pub piece_is : piece ≡ head ++ rest
  pub no_end : HasNoEnd head
  pub long : length (begun before ++ head) ≡ before.limit + 1
  pub used_is : used ≡ length head
  pub stays : (after.is_long ≡ true) × (after.limit ≡ before.limit)

-- What a cutter makes of a piece of which so many bytes were used. These exclude one another. Once a line was too long
-- nothing is used any more.
abbrev pub Cuts : Cutter → List ℕ → ℕ → Cut → Cutter → Type 0
Cuts before piece used Line after = CutsLine before piece used after
Cuts before piece used More after = TakesAll before piece used after
Cuts before piece used TooLong after = FindsLong before piece used after ⊎ ((before.is_long ≡ true) × (used ≡ 0) × (after ≡ before))

-- the bytes without one carriage return at their end
abbrev pub without_return : List ℕ → List ℕ
without_return bytes = if get_or bytes (length bytes - 1) 0 == 13 then take (length bytes - 1) bytes else bytes
