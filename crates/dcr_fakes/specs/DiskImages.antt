-- The disk model's laws hold of a disk in memory.
use Rattle.std.specs.Prelude.{◌≡◌, ℕ, ◌≤◌, nat_le, Bool, true, false, if◌then◌else◌, List, [], ◌∷◌, length, take, refl, Vec}
use Rattle.std.specs.declared.alloc.Global.{Global}
use Rattle.std.proofs.Common.{sym, subst, arith}
use Rattle.std.proofs.lemmas.Bool.{leb-true}
use Rattle.std.proofs.lemmas.List.{take_all}
use Rattle.dcr_base.specs.Disk.{Torn, written}
use Rattle.dcr_base.proofs.DiskLemmas.{torn_written}
use Rattle.dcr_base.proofs.FileLemmas.{torn_same}
use Rattle.dcr_fakes.specs.DiskLog.{step, content_after, IsImage, LeftAfter}
use Rattle.dcr_fakes.specs.declared.disk_call.DiskCall.{DiskCall}
use Rattle.dcr_fakes.specs.declared.disk_call.DiskCall.TheVariants.{Len, Read, Write, Sync}

-- a choice between what was written and what was there
torn_choice : (at : ℕ) (piece content : List ℕ) (within : Bool) → (within ≡ true → at ≤ length content)
    → Torn at (length piece) content (if within then written at piece content else content)
torn_choice at piece content true is = torn_written at piece content (length piece) (is refl) (omega arith)
torn_choice at piece content false is = torn_same at (length piece) content

-- a write tears a content at most as the disk model says
pub torn_step : (content : List ℕ) (at : ℕ) (bytes : Vec ℕ Global) (failed : Bool) → Torn at (length bytes.items) content (step content (Write at bytes failed))
torn_step content at bytes true = torn_same at (length bytes.items) content
torn_step content at bytes false = torn_choice at bytes.items content (nat_le at (length content)) (λ is. leb-true at (length content) is)

-- the content is one of the images
pub content_is_left : (P : List ℕ → Type 0) (content : List ℕ) (calls : List DiskCall) → P content → IsImage P content calls (content_after content calls)
content_is_left P content [] p = p
content_is_left P content (Len failed ∷ calls) p = content_is_left P content calls p
content_is_left P content (Read at count failed ∷ calls) p = content_is_left P content calls p
content_is_left P content (Write at bytes failed ∷ calls) p =
    content_is_left (λ torn. (whole : List ℕ) × P whole × Torn at (length bytes.items) whole torn) (step content (Write at bytes failed)) calls (content, p, torn_step content at bytes failed)
content_is_left P content (Sync true ∷ calls) p = content_is_left P content calls p
content_is_left P content (Sync false ∷ calls) p = content_is_left (λ durable. durable ≡ content) content calls refl

-- an image that a crash after so many of these calls, or after some that followed them, might have left
pub record LeftFrom (first : List ℕ) (calls : List DiskCall) (moment : ℕ) (image : List ℕ) : Type 0 where
  pub count : ℕ
  pub since : moment ≤ count
  pub within : count ≤ length calls
  pub left : LeftAfter first (take count calls) image

pub counts_last : (first : List ℕ) (calls : List DiskCall) (moment : ℕ) (image : List ℕ) → moment ≤ length calls → LeftAfter first calls image → LeftFrom first calls moment image
counts_last first calls moment image since left = record {
  count = length calls;
  since = since;
  within = omega arith;
  left = subst (λ (l : List DiskCall). LeftAfter first l image) (sym (take_all (length calls) calls (omega arith))) left;
}

pub only_last : (first : List ℕ) (calls : List DiskCall) (image : List ℕ) → LeftFrom first calls (length calls) image → LeftAfter first calls image
only_last first calls image from =
    subst (λ (l : List DiskCall). LeftAfter first l image) (take_all from.count calls (from.since)) from.left
