-- What is told of a content is one thing, and something is told of each.
use Rattle.std.specs.Prelude.{◌≡◌, ℕ, ◌<◌, ◌≤◌, List, [], length, All}
use Rattle.dcr_tape.specs.Opening.{IsCause, IsShown, most_records}
use Rattle.dcr_tape.specs.Tape.{Holds, Part, StandsFor}
use Rattle.dcr_tape.specs.declared.cause.TapeCause.{TapeCause}
use Rattle.dcr_tape.specs.declared.entry.TapeEntry.{TapeEntry}

-- a content has one part in force and stands for one list
abbrev pub OneList : Type 0
OneList = (content : List ℕ) (part other : Part) (entries others : List TapeEntry)
    → Holds content part entries → Holds content other others → (part ≡ other) × (entries ≡ others)

-- one cause stands in a content
abbrev pub OneCause : Type 0
OneCause = (digest content : List ℕ) (cause other : TapeCause) → IsShown cause → IsShown other
    → IsCause digest content cause → IsCause digest content other → cause ≡ other

-- and none where it stands for a list that isn't too long
abbrev pub NoCause : Type 0
NoCause = (digest content : List ℕ) (cause : TapeCause) (entries : List TapeEntry) → IsShown cause
    → IsCause digest content cause → StandsFor digest entries content → length entries ≤ most_records → ⊥

-- what a content is for the case with this digest
pub data IsTold (digest content : List ℕ) : Type 0 where
  is_empty : content ≡ [] → IsTold digest content
  -- it stands for a list that isn't too long
  stands : (entries : List TapeEntry) → StandsFor digest entries content → length entries ≤ most_records → IsTold digest content
  -- a cause stands in it, for which it is refused
  shows : (cause : TapeCause) → IsShown cause → IsCause digest content cause → IsTold digest content

-- each content of bytes is at least one of these
abbrev pub EachContentIs : Type 0
EachContentIs = (digest content : List ℕ) → All (λ (byte : ℕ). byte < 256) content → IsTold digest content
