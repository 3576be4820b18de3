-- What a write and a sync do to a disk with nothing pending.
use Rattle.std.proofs.Common.{◌≡◌, IsTrue, ℕ, List, length, sym, ◌∙◌, subst}
use Rattle.dcr_base.specs.Disk.{DiskView, Torn, Stays, Writes, Wrote, Durable, IsSteady, LeavesOnly}
use Rattle.dcr_base.proofs.DiskLemmas.{started, goes_on}
use Rattle.dcr_base.proofs.FileLemmas.{torn_same}

-- the same honesty
pub honest_as : (old new : DiskView) → new.honest ≡ old.honest → IsTrue old.honest → IsTrue new.honest
honest_as old new same honest = same ∙ honest

module _ (old mid new : DiskView) (at : ℕ) (bytes : List ℕ) (steady : IsSteady old) (writes : Writes at bytes old mid) where
  abbrev pub AsTorn : List ℕ → Type 0
  AsTorn c = Torn at (length bytes) old.content c

  before : (c : List ℕ) → old.may_leave c → AsTorn c
  before c left = subst AsTorn (sym (steady.only c left)) (torn_same at (length bytes) old.content)

  after_write : (c : List ℕ) → mid.may_leave c → AsTorn c
  after_write c left =
      let from = writes.torn steady.honest c left in
      subst (λ d. Torn at (length bytes) d c) (steady.only from.0 from.1) from.2

  pub write_leaves : LeavesOnly old mid AsTorn
  write_leaves = goes_on old old mid AsTorn (started old AsTorn before) (writes.elapses steady.honest) after_write

  still_honest : IsTrue mid.honest
  still_honest = honest_as old mid writes.honest steady.honest

  module _ (stays : Stays mid new) where
    pub sync_leaves : LeavesOnly old new AsTorn
    sync_leaves = goes_on old mid new AsTorn write_leaves (stays.elapses still_honest) (λ c left. after_write c (stays.no_more still_honest c left))

    pub sync_steady : Durable new → IsSteady new
    sync_steady durable = record { honest = honest_as mid new stays.honest still_honest; only = durable.only (honest_as mid new stays.honest still_honest) }

-- a sync keeps what was written
pub wrote_stays : (old mid new : DiskView) (at : ℕ) (bytes : List ℕ) → Wrote at bytes old mid → Stays mid new → Wrote at bytes old new
wrote_stays old mid new at bytes wrote stays =
    let kept = stays.told wrote.told in
    record { content = wrote.content; was = wrote.was; within = wrote.within; told = kept.0; holds = kept.1 ∙ wrote.holds }
