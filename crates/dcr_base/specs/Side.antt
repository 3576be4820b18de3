-- What a source or a sink tells, and what was written to it.
use Rattle.std.specs.Prelude.{◌≡◌, ℕ, ◌<◌, List, length, take, Option, None}
use Rattle.std.specs.Io.KnownBytes.{Appends}

-- what a source has left, or a sink has taken
pub record Side : Type 0 where
  -- the bytes, where they are told
  pub bytes : Option (List ℕ)
  -- how many calls have failed
  pub faults : ℕ

abbrev pub side : Option (List ℕ) → ℕ → Side
side bytes faults = record { bytes = bytes; faults = faults }

-- where there is no other direction
abbrev pub no_side : Side
no_side = side None 0

-- all of a text was written, and no write failed; `had` is what the sink had taken before, and `took` what it has taken now
abbrev pub Adds : List ℕ → Side → Side → Type 0
Adds text had took = Appends had.bytes took.bytes text × (took.faults ≡ had.faults)

-- of a text that was due a front was written, and not all of it
pub record Stopped (text : List ℕ) (had took : Side) : Type 0 where
  pub count : ℕ
  pub fewer : count < length text
  pub wrote : Appends had.bytes took.bytes (take count text)
