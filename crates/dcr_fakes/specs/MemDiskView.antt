-- A `MemDisk` as a disk.
use Rattle.std.specs.Prelude.{◌≡◌, ◌⊎◌, ℕ, ◌+◌, ◌<◌, ◌≤◌, true, false, List, [], ◌∷◌, ◌++◌, length, take, refl, Result, MatchResult, Vec}
use Rattle.std.specs.declared.alloc.Global.{Global}
use Rattle.dcr_base.specs.Disk.{DiskView}
use Rattle.dcr_fakes.specs.CallLog.{CallLog, counted, faulted, FailsNext}
use Rattle.dcr_fakes.specs.DiskLog.{content_after, current, LeftAfter}
use Rattle.dcr_fakes.specs.DiskImages.{LeftFrom, content_is_left, counts_last, only_last}
use Rattle.dcr_fakes.specs.declared.disk_call.DiskCall.{DiskCall}
use Rattle.dcr_fakes.specs.declared.disk_call.DiskCall.TheVariants.{Write}
use Rattle.dcr_fakes.specs.declared.mem_disk.MemDisk.{MemDisk}

-- an honest disk that held this at first, after these calls; the time is their number
abbrev pub view_after : List ℕ → List DiskCall → DiskView
view_after first done = record {
  told = true;
  content = content_after first done;
  honest = true;
  may_leave = LeftAfter first done;
  moment = length done;
  left_since = LeftFrom first done;
  honest_tells = λ _. refl;
  content_may_stay = λ _. content_is_left (λ durable. durable ≡ first) first done refl;
  counts_now = λ t c le now. counts_last first done t c le now;
  only_now = λ c left. only_last first done c left;
}

abbrev pub disk_view : MemDisk → DiskView
disk_view disk = view_after disk.first.items disk.done.items

-- what it holds
abbrev pub held : MemDisk → List ℕ
held disk = current disk.first.items disk.changed

-- the calls that it had, and what it held before them
abbrev pub calls_of : MemDisk → List DiskCall
calls_of disk = disk.done.items

abbrev pub held_first : MemDisk → List ℕ
held_first disk = disk.first.items

-- how many calls there were, which of them fail, and how many failed
abbrev pub log_of_calls : MemDisk → CallLog
log_of_calls disk = disk.calls

abbrev pub faults_of : MemDisk → ℕ
faults_of disk = disk.calls.faults

-- A call is counted, and fails where its number is among those that were named. Where it succeeds it is the last of the
-- list.
abbrev pub IsCounted : {T E : Type 0} → Result T E → MemDisk → MemDisk → Type 0
IsCounted result old new = MatchResult result
    (λ _. (FailsNext (log_of_calls old) → ⊥) × (log_of_calls new ≡ counted (log_of_calls old)))
    (λ _. log_of_calls new ≡ faulted (counted (log_of_calls old)))

-- the list has a write of these bytes more
pub record ListsWrite (at : ℕ) (bytes : List ℕ) (old new : List DiskCall) : Type 0 where
  pub piece : Vec ℕ Global
  pub has : piece.items ≡ bytes
  pub listed : new ≡ old ++ Write at piece false ∷ []

-- no call has this number, counted from 1
abbrev pub HasNoCall : List DiskCall → ℕ → Type 0
HasNoCall calls number = (number ≡ 0) ⊎ (length calls < number)

-- An image that a crash within the call of this number may leave, counted from 1: one from before the call or from after
-- it.
pub record LeftWithin (disk : MemDisk) (number : ℕ) (image : List ℕ) : Type 0 where
  pub calls : ℕ
  pub at_least : number ≤ calls + 1
  pub at_most : calls ≤ number
  pub left : LeftAfter disk.first.items (take calls disk.done.items) image
