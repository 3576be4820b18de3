-- What a disk in memory holds after its calls, and which images a crash may leave then.
use Rattle.std.specs.Prelude.{◌≡◌, ℕ, nat_le, Bool, true, false, if◌then◌else◌, List, [], ◌∷◌, length, Option, Some, None, Vec}
use Rattle.std.specs.declared.alloc.Global.{Global}
use Rattle.dcr_base.specs.Disk.{Torn, written}
use Rattle.dcr_fakes.specs.declared.disk_call.DiskCall.{DiskCall}
use Rattle.dcr_fakes.specs.declared.disk_call.DiskCall.TheVariants.{Len, Read, Write, Sync}

-- what a write makes of a content, where it didn't fail and begins within it
abbrev pub step_by : ℕ → List ℕ → Bool → List ℕ → List ℕ
step_by at bytes true content = content
step_by at bytes false content = if nat_le at (length content) then written at bytes content else content

-- what a call makes of a content
abbrev pub step : List ℕ → DiskCall → List ℕ
step content (Len failed) = content
step content (Read at count failed) = content
step content (Write at bytes failed) = step_by at bytes.items failed content
step content (Sync failed) = content

-- the content after these calls
abbrev pub content_after : List ℕ → List DiskCall → List ℕ
content_after content [] = content
content_after content (call ∷ calls) = content_after (step content call) calls

-- An image that a crash may leave after these calls, where one from before them has P: each write leaves it torn, and
-- a sync that succeeded leaves the content.
abbrev pub IsImage : (List ℕ → Type 0) → List ℕ → List DiskCall → List ℕ → Type 0
IsImage P content [] image = P image
IsImage P content (Len failed ∷ calls) image = IsImage P content calls image
IsImage P content (Read at count failed ∷ calls) image = IsImage P content calls image
IsImage P content (Write at bytes failed ∷ calls) image =
    IsImage (λ torn. (whole : List ℕ) × P whole × Torn at (length bytes.items) whole torn) (step content (Write at bytes failed)) calls image
IsImage P content (Sync true ∷ calls) image = IsImage P content calls image
IsImage P content (Sync false ∷ calls) image = IsImage (λ durable. durable ≡ content) content calls image

-- an image that a crash after these calls may leave of a disk that held this at first, all of it durable
abbrev pub LeftAfter : List ℕ → List DiskCall → List ℕ → Type 0
LeftAfter first calls image = IsImage (λ durable. durable ≡ first) first calls image

-- what it holds: what it held at first, where nothing was written
abbrev pub current : List ℕ → Option (Vec ℕ Global) → List ℕ
current first None = first
current first (Some changed) = changed.items
