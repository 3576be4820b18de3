-- What came of reading so many bytes.
use Rattle.std.specs.Prelude.{◌≡◌, ◌⊎◌, ℕ, ◌<◌, List, length, Option, None}
use Rattle.std.specs.Io.KnownBytes.{Consumes}
use Rattle.dcr_base.specs.Count.{Fails}
use Rattle.dcr_base.specs.Side.{Side}

-- these were read, and no read failed
pub record Read (bytes : List ℕ) (before after : Side) : Type 0 where
  pub read : Consumes before.bytes after.bytes bytes
  pub no_fault : after.faults ≡ before.faults

-- these were read, and then a read failed
pub record ReadAndFailed (bytes : List ℕ) (before after : Side) : Type 0 where
  pub read : Consumes before.bytes after.bytes bytes
  pub fault : Fails before.faults after.faults

-- fewer bytes than so many were read: then the source has ended, or a read failed
pub record FallsShort (width : ℕ) (has_ended : Type 0) (before after : Side) : Type 0 where
  pub bytes : List ℕ
  pub fewer : length bytes < width
  pub why : (has_ended × Read bytes before after) ⊎ ReadAndFailed bytes before after

-- So many bytes were read, and this is what they spell; or fewer, and it is nothing.
abbrev pub Hears : {A : Type 0} → ℕ → Type 0 → Side → Side → (List ℕ → Option A → Type 0) → Option A → Type 0
Hears width has_ended before after spells result =
    ((bytes : List ℕ) × (length bytes ≡ width) × Read bytes before after × spells bytes result)
    ⊎ (FallsShort width has_ended before after × (result ≡ None))
