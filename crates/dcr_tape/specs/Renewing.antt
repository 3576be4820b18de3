-- The two writes with which a tape is renewed behind its end.
use Rattle.std.specs.Prelude.{◌≡◌, ℕ, ◌≤◌, IsTrue, List, length}
use Rattle.std.specs.Int.{w64, to_be_bytes}
use Rattle.dcr_base.specs.Disk.{DiskView, Torn, written}

-- what a crash may make of a content by a write behind its records and one of the pointer
pub record TornTwice (start count : ℕ) (old new : List ℕ) : Type 0 where
  pub between : List ℕ
  pub part : Torn start count old between
  pub pointer : Torn 41 8 between new

-- what both writes make of it
pub record WroteTwice (start : ℕ) (part : List ℕ) (old new : DiskView) : Type 0 where
  pub content : List ℕ
  pub was : IsTrue old.told → old.content ≡ content
  pub told : IsTrue new.told
  pub within : start ≤ length content
  pub pointer_within : 41 ≤ length (written start part content)
  pub holds : new.content ≡ written 41 (to_be_bytes w64 start) (written start part content)
