-- One call more on a disk in memory.
use Rattle.std.proofs.Common.{◌≡◌, ◌⊎◌, inl, inr, IsTrue, ℕ, ◌+◌, ◌<◌, ◌≤◌, nat_le, Bool, true, false, not, if◌then◌else◌, List, [], ◌∷◌, ◌++◌, length, get_or, take, Option, refl, sym, ◌∙◌, ap, subst, arith, Vec}
use Rattle.std.specs.declared.alloc.Global.{Global}
use Rattle.std.proofs.lemmas.Bool.Decides.{leb_tells}
use Rattle.std.proofs.lemmas.Bool.{false≢true, le-leb}
use Rattle.std.proofs.lemmas.List.{take_all, take_more, take-append-le, length-append}
use Rattle.dcr_base.specs.Disk.{Torn, DiskView, Elapses, Stays, Writes, Durable, written}
use Rattle.dcr_base.proofs.FileLemmas.{torn_same}
use Rattle.dcr_fakes.specs.DiskLog.{step, step_by, content_after, current, IsImage, LeftAfter}
use Rattle.dcr_fakes.specs.DiskImages.{LeftFrom, torn_step}
use Rattle.dcr_fakes.specs.MemDiskView.{view_after}
use Rattle.dcr_fakes.specs.declared.disk_call.DiskCall.{DiskCall}
use Rattle.dcr_fakes.specs.declared.disk_call.DiskCall.TheVariants.{Len, Read, Write, Sync}

pub content_after-push : (content : List ℕ) (calls : List DiskCall) (call : DiskCall) → content_after content (calls ++ call ∷ []) ≡ step (content_after content calls) call
content_after-push content [] call = refl
content_after-push content (first ∷ calls) call = content_after-push (step content first) calls call

-- a call that leaves every image as it was
pub data Quiet : DiskCall → Type 0 where
  len : {failed : Bool} → Quiet (Len failed)
  read : {at count : ℕ} {failed : Bool} → Quiet (Read at count failed)
  failed_sync : Quiet (Sync true)

image_quiet : (P : List ℕ → Type 0) (content : List ℕ) (calls : List DiskCall) (call : DiskCall) (image : List ℕ) → Quiet call
    → IsImage P content (calls ++ call ∷ []) image → IsImage P content calls image
image_quiet P content [] (Len failed) image quiet is = is
image_quiet P content [] (Read at count failed) image quiet is = is
image_quiet P content [] (Sync true) image quiet is = is
image_quiet P content [] (Write at bytes failed) image quiet is = elim quiet [ ]
image_quiet P content [] (Sync false) image quiet is = elim quiet [ ]
image_quiet P content (Len f ∷ calls) call image quiet is = image_quiet P content calls call image quiet is
image_quiet P content (Read at count f ∷ calls) call image quiet is = image_quiet P content calls call image quiet is
image_quiet P content (Write at bytes f ∷ calls) call image quiet is = image_quiet _ (step content (Write at bytes f)) calls call image quiet is
image_quiet P content (Sync true ∷ calls) call image quiet is = image_quiet P content calls call image quiet is
image_quiet P content (Sync false ∷ calls) call image quiet is = image_quiet (λ durable. durable ≡ content) content calls call image quiet is

image_write : (P : List ℕ → Type 0) (content : List ℕ) (calls : List DiskCall) (at : ℕ) (bytes : Vec ℕ Global) (failed : Bool) (image : List ℕ)
    → IsImage P content (calls ++ Write at bytes failed ∷ []) image → (whole : List ℕ) × IsImage P content calls whole × Torn at (length bytes.items) whole image
image_write P content [] at bytes failed image is = is
image_write P content (Len f ∷ calls) at bytes failed image is = image_write P content calls at bytes failed image is
image_write P content (Read a count f ∷ calls) at bytes failed image is = image_write P content calls at bytes failed image is
image_write P content (Write a piece f ∷ calls) at bytes failed image is = image_write _ (step content (Write a piece f)) calls at bytes failed image is
image_write P content (Sync true ∷ calls) at bytes failed image is = image_write P content calls at bytes failed image is
image_write P content (Sync false ∷ calls) at bytes failed image is = image_write (λ durable. durable ≡ content) content calls at bytes failed image is

image_sync : (P : List ℕ → Type 0) (content : List ℕ) (calls : List DiskCall) (image : List ℕ)
    → IsImage P content (calls ++ Sync false ∷ []) image → image ≡ content_after content calls
image_sync P content [] image is = is
image_sync P content (Len f ∷ calls) image is = image_sync P content calls image is
image_sync P content (Read a count f ∷ calls) image is = image_sync P content calls image is
image_sync P content (Write a piece f ∷ calls) image is = image_sync _ (step content (Write a piece f)) calls image is
image_sync P content (Sync true ∷ calls) image is = image_sync P content calls image is
image_sync P content (Sync false ∷ calls) image is = image_sync (λ durable. durable ≡ content) content calls image is

-- ---- time

within_or_last : (k n : ℕ) → k ≤ n + 1 → (k ≤ n) ⊎ (k ≡ n + 1)
within_or_last k n le = elim (leb_tells k n) [ inl is ↦ inl is.1 | inr is ↦ inr (omega (arith, le, is.1)) ]

module _ (first : List ℕ) (done : List DiskCall) (call : DiskCall) where
  abbrev now : List DiskCall
  now = done ++ call ∷ []

  long : length now ≡ length done + 1
  long = length-append done (call ∷ [])

  before_is : (k : ℕ) → k ≤ length done → take k now ≡ take k done
  before_is k le = take-append-le k done (call ∷ []) le

  -- time goes on by a call
  pub elapses_push : Elapses (view_after first done) (view_after first now)
  elapses_push = record {
    later = omega (arith, long);
    nothing_else = λ t c le from. split t c from (within_or_last from.count (length done) (omega (arith, long, from.within)));
    keeps = λ t c le from. record {
      count = from.count;
      since = from.since;
      within = omega (arith, from.within, long);
      left = subst (λ (l : List DiskCall). LeftAfter first l c) (sym (before_is from.count from.within)) from.left;
    };
  }
    where
      split : (t : ℕ) (c : List ℕ) (from : LeftFrom first now t c) → (from.count ≤ length done) ⊎ (from.count ≡ length done + 1)
          → LeftFrom first done t c ⊎ LeftAfter first now c
      split t c from (inl earlier) = inl (record {
        count = from.count;
        since = from.since;
        within = earlier;
        left = subst (λ (l : List DiskCall). LeftAfter first l c) (before_is from.count earlier) from.left;
      })
      split t c from (inr last) = inr (subst (λ (l : List DiskCall). LeftAfter first l c) (take_all from.count now (omega (arith, last, long))) from.left)

-- no call that is kept
pub elapses_same : (disk : DiskView) → Elapses disk disk
elapses_same disk = record { later = omega arith; nothing_else = λ t c le from. inl from; keeps = λ t c le from. from }

pub stays_same : (disk : DiskView) → Stays disk disk
stays_same disk = record { told = λ told. (told, refl); honest = refl; no_more = λ _ c left. left; elapses = λ _. elapses_same disk }

pub writes_same : (disk : DiskView) (at : ℕ) (bytes : List ℕ) → Writes at bytes disk disk
writes_same disk at bytes = record {
  told = λ told. (told, torn_same at (length bytes) disk.content);
  honest = refl;
  torn = λ _ c left. (c, left, torn_same at (length bytes) c);
  elapses = λ _. elapses_same disk;
}

step_quiet : (content : List ℕ) (call : DiskCall) → Quiet call → step content call ≡ content
step_quiet content (Len failed) quiet = refl
step_quiet content (Read at count failed) quiet = refl
step_quiet content (Sync failed) quiet = refl
step_quiet content (Write at bytes failed) quiet = elim quiet [ ]

pub stays_quiet : (first : List ℕ) (done : List DiskCall) (call : DiskCall) → Quiet call → Stays (view_after first done) (view_after first (done ++ call ∷ []))
stays_quiet first done call quiet = record {
  told = λ told. (refl, content_after-push first done call ∙ step_quiet (content_after first done) call quiet);
  honest = refl;
  no_more = λ _ c left. image_quiet (λ durable. durable ≡ first) first done call c quiet left;
  elapses = λ _. elapses_push first done call;
}

-- a sync that succeeds leaves the content, which is one of the images before it
pub stays_sync : (first : List ℕ) (done : List DiskCall) → Stays (view_after first done) (view_after first (done ++ Sync false ∷ []))
stays_sync first done = record {
  told = λ told. (refl, content_after-push first done (Sync false));
  honest = refl;
  no_more = λ _ c left. subst (LeftAfter first done) (sym (image_sync (λ durable. durable ≡ first) first done c left)) ((view_after first done).content_may_stay refl);
  elapses = λ _. elapses_push first done (Sync false);
}

pub durable_sync : (first : List ℕ) (done : List DiskCall) → Durable (view_after first (done ++ Sync false ∷ []))
durable_sync first done = record {
  told = refl;
  only = λ _ c left. image_sync (λ durable. durable ≡ first) first done c left ∙ sym (content_after-push first done (Sync false));
}

pub writes_push : (first : List ℕ) (done : List DiskCall) (at : ℕ) (bytes : Vec ℕ Global) (failed : Bool)
    → Writes at bytes.items (view_after first done) (view_after first (done ++ Write at bytes failed ∷ []))
writes_push first done at bytes failed = record {
  told = λ told. (refl, subst (Torn at (length bytes.items) (content_after first done)) (sym (content_after-push first done (Write at bytes failed))) (torn_step (content_after first done) at bytes failed));
  honest = refl;
  torn = λ _ c left. image_write (λ durable. durable ≡ first) first done at bytes failed c left;
  elapses = λ _. elapses_push first done (Write at bytes failed);
}

-- ---- a call that may be kept

-- it writes nothing
abbrev pub Idle : DiskCall → Type 0
Idle (Len failed) = Unit {0}
Idle (Read at count failed) = Unit {0}
Idle (Write at bytes failed) = ⊥
Idle (Sync failed) = Unit {0}

step_idle : (content : List ℕ) (call : DiskCall) → Idle call → step content call ≡ content
step_idle content (Len failed) idle = refl
step_idle content (Read at count failed) idle = refl
step_idle content (Write at bytes failed) idle = absurd idle
step_idle content (Sync failed) idle = refl

stays_idle : (first : List ℕ) (done : List DiskCall) (call : DiskCall) → Idle call → Stays (view_after first done) (view_after first (done ++ call ∷ []))
stays_idle first done (Len failed) idle = stays_quiet first done (Len failed) len
stays_idle first done (Read at count failed) idle = stays_quiet first done (Read at count failed) read
stays_idle first done (Write at bytes failed) idle = absurd idle
stays_idle first done (Sync true) idle = stays_quiet first done (Sync true) failed_sync
stays_idle first done (Sync false) idle = stays_sync first done

module _ (first : List ℕ) (changed : Option (Vec ℕ Global)) (done after : List DiskCall) (call : DiskCall) (idle : Idle call) where
  pub kept_stays : (kept : Bool) → after ≡ (if kept then done ++ call ∷ [] else done) → Stays (view_after first done) (view_after first after)
  kept_stays true is = subst (λ (l : List DiskCall). Stays (view_after first done) (view_after first l)) (sym is) (stays_idle first done call idle)
  kept_stays false is = subst (λ (l : List DiskCall). Stays (view_after first done) (view_after first l)) (sym is) (stays_same (view_after first done))

  pub kept_holds : (kept : Bool) → after ≡ (if kept then done ++ call ∷ [] else done) → current first changed ≡ content_after first done → current first changed ≡ content_after first after
  kept_holds true is held = held ∙ sym (ap (content_after first) is ∙ content_after-push first done call ∙ step_idle (content_after first done) call idle)
  kept_holds false is held = held ∙ sym (ap (content_after first) is)

pub kept_durable : (first : List ℕ) (done after : List DiskCall) (failed kept : Bool) → failed ≡ false → kept ≡ true → after ≡ (if kept then done ++ Sync failed ∷ [] else done) → Durable (view_after first after)
kept_durable first done after false true ok has is = subst (λ (l : List DiskCall). Durable (view_after first l)) (sym is) (durable_sync first done)
kept_durable first done after true kept ok has is = absurd (false≢true (sym ok))
kept_durable first done after failed false ok has is = absurd (false≢true has)

-- ---- a write

if_within : (at : ℕ) (piece content : List ℕ) (within : Bool) → within ≡ true → (if within then written at piece content else content) ≡ written at piece content
if_within at piece content true is = refl
if_within at piece content false is = absurd (false≢true is)

step_wrote : (at : ℕ) (piece content : List ℕ) (did : Bool) → (IsTrue did → at ≤ length content) → (if did then written at piece content else content) ≡ step_by at piece (not did) content
step_wrote at piece content true within = sym (if_within at piece content (nat_le at (length content)) (le-leb at (length content) (within refl)))
step_wrote at piece content false within = refl

module _ (first : List ℕ) (done after : List DiskCall) (at : ℕ) (piece : Vec ℕ Global) (bytes : List ℕ) (same : piece.items ≡ bytes) (did : Bool)
    (pushed : after ≡ done ++ Write at piece (not did) ∷ []) where
  pub write_holds : (old new : List ℕ) → old ≡ content_after first done → new ≡ (if did then written at bytes old else old) → (IsTrue did → at ≤ length old) → new ≡ content_after first after
  write_holds old new held is within =
      is ∙ step_wrote at bytes old did within
      ∙ ap (λ (l : List ℕ). step_by at l (not did) old) (sym same)
      ∙ ap (step_by at piece.items (not did)) held
      ∙ sym (ap (content_after first) pushed ∙ content_after-push first done (Write at piece (not did)))

  pub write_writes : Writes at bytes (view_after first done) (view_after first after)
  write_writes =
      subst (λ (l : List DiskCall). Writes at bytes (view_after first done) (view_after first l)) (sym pushed)
      (subst (λ (l : List ℕ). Writes at l (view_after first done) (view_after first (done ++ Write at piece (not did) ∷ []))) same (writes_push first done at piece (not did)))

-- ---- the images of a list, call by call

image_next : (P : List ℕ → Type 0) (content : List ℕ) (calls : List DiskCall) (call : DiskCall) (image : List ℕ)
    → IsImage (IsImage P content calls) (content_after content calls) (call ∷ []) image → IsImage P content (calls ++ call ∷ []) image
image_next P content [] call image is = is
image_next P content (Len f ∷ calls) call image is = image_next P content calls call image is
image_next P content (Read a count f ∷ calls) call image is = image_next P content calls call image is
image_next P content (Write a piece f ∷ calls) call image is = image_next _ (step content (Write a piece f)) calls call image is
image_next P content (Sync true ∷ calls) call image is = image_next P content calls call image is
image_next P content (Sync false ∷ calls) call image is = image_next (λ durable. durable ≡ content) content calls call image is

-- an image of one is an image of all that have what it has
image_of : (P : List ℕ → Type 0) (content old : List ℕ) (call : DiskCall) (image : List ℕ) → P old
    → IsImage (λ was. was ≡ old) content (call ∷ []) image → IsImage P content (call ∷ []) image
image_of P content old (Len f) image has is = subst P (sym is) has
image_of P content old (Read a count f) image has is = subst P (sym is) has
image_of P content old (Write a piece f) image has is = (is.0, subst P (sym is.1) has, is.2)
image_of P content old (Sync true) image has is = subst P (sym is) has
image_of P content old (Sync false) image has is = is

module _ (first : List ℕ) (calls : List DiskCall) (at : ℕ) (within : at < length calls) (call : DiskCall) (is : get_or calls at call ≡ call) where
  one_more : take (at + 1) calls ≡ take at calls ++ call ∷ []
  one_more = take_more calls at call within ∙ ap (λ (x : DiskCall). take at calls ++ x ∷ []) is

  pub next_content : (content after : List ℕ) → content ≡ content_after first (take at calls) → after ≡ step content call → after ≡ content_after first (take (at + 1) calls)
  next_content content after before step_is =
      step_is ∙ ap (λ (c : List ℕ). step c call) before ∙ sym (ap (content_after first) one_more ∙ content_after-push first (take at calls) call)

  pub next_image : (content old image : List ℕ) → content ≡ content_after first (take at calls) → LeftAfter first (take at calls) old
      → IsImage (λ was. was ≡ old) content (call ∷ []) image → LeftAfter first (take (at + 1) calls) image
  next_image content old image same left is =
      subst (λ (l : List DiskCall). LeftAfter first l image) (sym one_more)
      (image_next (λ durable. durable ≡ first) first (take at calls) call image
      (image_of (LeftAfter first (take at calls)) (content_after first (take at calls)) old call image left
      (subst (λ (c : List ℕ). IsImage (λ was. was ≡ old) c (call ∷ []) image) same is)))
