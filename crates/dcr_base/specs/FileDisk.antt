-- What a `FileDisk` is made of.
use Rattle.std.specs.Prelude.{◌≡◌, ℕ, Bool, true, false, List, [], Option, Some, None, refl}
use Rattle.std.proofs.lemmas.Bool.{false≢true}
use Rattle.dcr_base.specs.Disk.{DiskView}
use Rattle.dcr_base.specs.declared.file_disk.FileDisk.{FileDisk}
use Rattle.dcr_base.specs.declared.file_disk.OpenFile.{OpenFile}

abbrev pub is_open : Option OpenFile → Bool
is_open None = false
is_open (Some file) = true

abbrev pub content_of : Option OpenFile → List ℕ
content_of None = []
content_of (Some file) = file.bytes.items

-- A disk that is told from the first call that opens the file on. What a crash may leave of a real file isn't claimed.
abbrev pub view_of_file : Option OpenFile → DiskView
view_of_file opened = record {
  told = is_open opened;
  content = content_of opened;
  honest = false;
  may_leave = λ c. c ≡ content_of opened;
  moment = 0;
  left_since = λ _ c. c ≡ content_of opened;
  honest_tells = λ lie. absurd (false≢true lie);
  content_may_stay = λ _. refl;
  counts_now = λ _ _ _ now. now;
  only_now = λ _ now. now;
}

abbrev pub file_view : {R : Type 0} → FileDisk R → DiskView
file_view disk = view_of_file disk.opened

-- how many calls have failed, or 2^64 - 1 where there were more
abbrev pub failed_calls : {R : Type 0} → FileDisk R → ℕ
failed_calls disk = disk.faults
