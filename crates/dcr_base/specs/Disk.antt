-- A disk as contracts see it, what each call does to it, and what a crash may leave of it.
use Rattle.std.specs.Prelude.{◌≡◌, ◌⊎◌, ℕ, ◌+◌, ◌≤◌, max, Bool, IsTrue, List, ◌++◌, length, take, drop}

-- the bytes of a content from an offset on: so many, or as many as there are
abbrev pub bytes_at : List ℕ → ℕ → ℕ → List ℕ
bytes_at content at count = take count (drop at content)

-- the content with these bytes written over it from an offset on
abbrev pub written : ℕ → List ℕ → List ℕ → List ℕ
written at bytes content = take at content ++ (bytes ++ drop (at + length bytes) content)

-- The disk model: what a crash may make of a content by a write of so many bytes at an offset, while no sync has
-- followed. The range that is written, and what lies behind the old end, may hold any bytes; the bytes outside stay.
pub record Torn (at count : ℕ) (old new : List ℕ) : Type 0 where
  pub before : take at new ≡ take at old
  pub behind : drop (at + count) new ≡ drop (at + count) old
  pub no_shorter : length old ≤ length new
  pub no_longer : length new ≤ max (length old) (at + count)

pub record DiskView : Type 1 where
  -- the content is told: what each call answers is that of this content
  pub told : Bool
  -- the bytes that a read gives
  pub content : List ℕ
  -- the disk tells its content, and keeps to the disk model in a crash
  pub honest : Bool
  -- the images: the contents that a crash now may leave
  pub may_leave : List ℕ → Type 0
  -- the time, a number that doesn't fall
  pub moment : ℕ
  -- the images that a crash at some moment since that one might have left, during a call or between two
  pub left_since : ℕ → List ℕ → Type 0
  pub honest_tells : IsTrue honest → IsTrue told
  -- the content is one of the images
  pub content_may_stay : IsTrue honest → may_leave content
  -- this moment is one of those since an earlier one
  pub counts_now : (t : ℕ) (c : List ℕ) → t ≤ moment → may_leave c → left_since t c
  -- since this moment there was no other
  pub only_now : (c : List ℕ) → left_since moment c → may_leave c

-- each image is this content
abbrev pub Only : List ℕ → (List ℕ → Type 0) → Type 0
Only content images = (c : List ℕ) → images c → c ≡ content

-- each new image is an old one after a step
abbrev pub Follows : (List ℕ → List ℕ → Type 0) → (List ℕ → Type 0) → (List ℕ → Type 0) → Type 0
Follows step old new = (c : List ℕ) → new c → (d : List ℕ) × old d × step d c

-- Time went on by one call: a crash since t might have left what it might have left before the call, or what it may
-- leave now.
pub record Elapses (old new : DiskView) : Type 0 where
  pub later : old.moment ≤ new.moment
  pub nothing_else : (t : ℕ) (c : List ℕ) → t ≤ old.moment → new.left_since t c → old.left_since t c ⊎ new.may_leave c
  pub keeps : (t : ℕ) (c : List ℕ) → t ≤ old.moment → old.left_since t c → new.left_since t c

-- a call that changes nothing: the content stays, and a crash may leave no more than before
pub record Stays (old new : DiskView) : Type 0 where
  pub told : IsTrue old.told → IsTrue new.told × (new.content ≡ old.content)
  pub honest : new.honest ≡ old.honest
  pub no_more : IsTrue old.honest → (c : List ℕ) → new.may_leave c → old.may_leave c
  pub elapses : IsTrue old.honest → Elapses old new

-- a write of these bytes at an offset, whether it succeeded or failed
pub record Writes (at : ℕ) (bytes : List ℕ) (old new : DiskView) : Type 0 where
  pub told : IsTrue old.told → IsTrue new.told × Torn at (length bytes) old.content new.content
  pub honest : new.honest ≡ old.honest
  pub torn : IsTrue old.honest → Follows (Torn at (length bytes)) old.may_leave new.may_leave
  pub elapses : IsTrue old.honest → Elapses old new

-- what a write that succeeded makes of the content. Where that wasn't told before, there was one that the write began
-- within.
pub record Wrote (at : ℕ) (bytes : List ℕ) (old new : DiskView) : Type 0 where
  pub content : List ℕ
  pub was : IsTrue old.told → old.content ≡ content
  pub within : at ≤ length content
  pub told : IsTrue new.told
  pub holds : new.content ≡ written at bytes content

-- after a sync that succeeded a crash leaves what a read gives
pub record Durable (new : DiskView) : Type 0 where
  pub told : IsTrue new.told
  pub only : IsTrue new.honest → Only new.content new.may_leave

-- ---- several calls

-- an honest disk with nothing pending: a crash leaves its content
pub record IsSteady (disk : DiskView) : Type 0 where
  pub honest : IsTrue disk.honest
  pub only : Only disk.content disk.may_leave

-- a crash at any moment since the old state left an image that has P
pub record LeavesOnly (old new : DiskView) (P : List ℕ → Type 0) : Type 0 where
  pub later : old.moment ≤ new.moment
  pub each : (c : List ℕ) → new.left_since old.moment c → P c
  -- the same for a run that began earlier
  pub before : (t : ℕ) (c : List ℕ) → t ≤ old.moment → new.left_since t c → old.left_since t c ⊎ P c
