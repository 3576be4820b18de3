-- What was read and written, by the words of the outside.
use Rattle.std.proofs.Common.{◌≡◌, ◌⊎◌, ℕ, ◌≤◌, ◌+◌, arith, List, [], length, Option, Some, None, Result, Ok, Err, inl, inr, refl, sym, ap, ◌∙◌, subst, IfOk, IfSome, IsSome, OnOk, MatchResult}
use Rattle.std.specs.Prelude.{⊤}
use Rattle.std.specs.Io.KnownBytes.{Appends, IsAtEnd}
use Rattle.std.proofs.lemmas.List.{append-nil, drop_all}
use Rattle.dcr_base.specs.Count.{Rose}
use Rattle.dcr_base.specs.ReadStop.{CountsRead}
use Rattle.dcr_base.specs.declared.reading.ReadStop.{ReadStop}
use Rattle.dcr_base.specs.declared.reading.ReadStop.TheVariants as read
use Rattle.dcr_base.specs.Side.{Adds, Side}
use Rattle.dcr_base.specs.declared.status.Status.{Status}
use Rattle.dcr_base.specs.declared.status.Status.TheVariants.{ReadFault, WriteFault, NoMemory, DiskFault, DoorFault}
use Rattle.dcr_app.specs.Answers.{IsOr}
use Rattle.dcr_app.specs.Outside.{CountsWhere, IsStarved, TookAtMost, WereLeft, Wrote, wrote_all, write_failed, write_starved}

-- ---- what was read

-- all of it, which is within the limit
pub took_all : (limit : ℕ) (before after : Option (List ℕ)) (bytes : List ℕ) → length bytes ≤ limit → IfSome before (λ left. bytes ≡ left)
    → (IsSome before → IsSome after) → IsAtEnd after → TookAtMost (limit + 1) before after
took_all limit None after bytes short same told ended = tt
took_all limit (Some left) None bytes short same told over = let wrong = told refl in absurd cc
took_all limit (Some left) (Some rest) bytes short same told over =
    let fits : length left ≤ limit = subst (λ l. length l ≤ limit) same short in
    (length left, omega (arith, fits), ap Some (over ∙ sym (drop_all (length left) left (omega arith))))

-- the bytes of a whole input are those that it had left
pub were_left : (left : Option (List ℕ)) (bytes : List ℕ) → IfSome left (λ it. bytes ≡ it) → WereLeft left bytes
were_left None bytes same = tt
were_left (Some it) bytes same = sym same

-- what holds of the bytes that were read holds of what the input had left
pub of_left : (P : List ℕ → Type 0) (left : Option (List ℕ)) (bytes : List ℕ) → WereLeft left bytes → P bytes → IfSome left P
of_left P None bytes read holds = tt
of_left P (Some it) bytes read holds = subst P (sym read) holds

-- ---- what was written

pub appends_nothing : (had : Option (List ℕ)) → Appends had had []
appends_nothing None = tt
appends_nothing (Some xs) = sym (append-nil xs)

pub adds_nothing : (had : Side) → Adds [] had had
adds_nothing had = (appends_nothing had.bytes, refl)

-- what holds of each status that comes of a text that was due holds of the status
pub by_wrote : (P : Status → Type 0) → P WriteFault → P NoMemory → {due : Status} {text : List ℕ} {status : Status} {had took : Side} → Wrote due text status had took → (Adds text had took → P due)
    → P status
by_wrote P failed starved (wrote_all is adds) holds = subst P (sym is) (holds adds)
by_wrote P failed starved (write_failed is stopped fails) holds = subst P (sym is) failed
by_wrote P failed starved (write_starved is stopped same) holds = subst P (sym is) starved

-- the statuses with which a text may be due
abbrev pub IsDue : Status → Type 0
IsDue ReadFault = ⊥
IsDue WriteFault = ⊥
IsDue NoMemory = ⊥
IsDue status = Unit {0}

-- with a status with which a text may be due all of it was written
pub wrote_at : (named : Status) → IsDue named → {due : Status} {text : List ℕ} {status : Status} {had took : Side} → Wrote due text status had took → status ≡ named → (named ≡ due) × Adds text had took
wrote_at named may (wrote_all same adds) is = (sym is ∙ same, adds)
wrote_at named may (write_failed same stopped fails) is = elim (subst IsDue (sym is ∙ same) may) [ ]
wrote_at named may (write_starved same stopped equal) is = elim (subst IsDue (sym is ∙ same) may) [ ]

-- where the output didn't fail a text that was due with this status was written, or memory ran out
pub due_or : {due : Status} {text : List ℕ} {status : Status} {had took : Side} → Wrote due text status had took → (status ≡ WriteFault → ⊥) → IsOr due status
due_or (wrote_all is adds) writes = inl is
due_or (write_failed is stopped fails) writes = absurd (writes is)
due_or (write_starved is stopped same) writes = inr is

-- a line for which memory was wanted
pub told_line : {V E : Type 0} (line : Result V E) (items : V → List ℕ) (text : List ℕ) (Had : Type 0) (due status : Status) (had took : Side) → IfOk line (λ l. items l ≡ text) → OnOk line Had
    → MatchResult line (λ l. Wrote due (items l) status had took) (λ _. IsStarved status had took) → IsStarved status had took ⊎ (Had × Wrote due text status had took)
told_line (Ok l) items text Had due status had took is holds wrote = inr (holds, subst (λ t. Wrote due t status had took) is wrote)
told_line (Err e) items text Had due status had took is holds starved = inl starved

pub any_ok : {V E : Type 0} (r : Result V E) → OnOk r ⊤
any_ok (Ok v) = tt
any_ok (Err e) = tt

-- ---- which fault was counted

-- no fault came, and none was counted
pub uncounted : {failed : Type 0} {old new : ℕ} → (failed → ⊥) → new ≡ old → CountsWhere failed old new
uncounted fine same = (omega (arith, same), λ is. absurd (fine is), λ _. same)

-- one came, and was counted
pub counted : {failed : Type 0} {old new : ℕ} → failed → old ≤ new → Rose old new → CountsWhere failed old new
counted came more rose = (more, λ _. rose, λ never. absurd (never came))

-- what a reading counts
pub read_counts : (stop : ReadStop) (old new : ℕ) → CountsRead {T = List ℕ} (Err stop) old new → CountsWhere (stop ≡ read.ReadFault) old new
read_counts read.TooLong old new same = uncounted (λ is. let wrong : read.TooLong ≡ read.ReadFault = is in cc) same
read_counts read.ReadFault old new fails = counted refl fails.0 fails.1
read_counts read.NoMemory old new same = uncounted (λ is. let wrong : read.NoMemory ≡ read.ReadFault = is in cc) same

-- ---- how a command ended

-- What is known of a command that has ended with this status: a write was counted as failed where it says so, a read failed only where
-- `Reads` holds, it says what `Says` tells of the status, and where nothing failed the input is answered by it.
pub record IsEnded (Reads : Type 0) (Says : Status → Type 0) (Answers : Type 0) (status : Status) (had took : Side) : Type 0 where
  pub writes : CountsWhere (status ≡ WriteFault) had.faults took.faults
  pub reads : status ≡ ReadFault → Reads
  pub says : Says status
  pub ends : (status ≡ ReadFault → ⊥) → (status ≡ WriteFault → ⊥) → (status ≡ DiskFault → ⊥) → (status ≡ DoorFault → ⊥) → Answers

module _ (Reads : Type 0) (Says : Status → Type 0) (Answers : Type 0) where
  -- a text was due
  pub ended_with : Says WriteFault → Says NoMemory → {due : Status} {text : List ℕ} {status : Status} {had took : Side} → IsDue due → Wrote due text status had took → (Adds text had took → Says due)
      → ((status ≡ DiskFault → ⊥) → (status ≡ DoorFault → ⊥) → IsOr due status → Answers) → IsEnded Reads Says Answers status had took
  ended_with failed starved {due} {text} {status} {had} {took} may wrote says ends = record {
    writes = writes wrote;
    reads = λ is. elim (by_wrote (λ s. s ≡ ReadFault → ⊥) (λ e. let wrong : WriteFault ≡ ReadFault = e in cc) (λ e. let wrong : NoMemory ≡ ReadFault = e in cc) wrote (λ _ e. subst IsDue e may) is) [ ];
    says = by_wrote Says failed starved wrote says;
    ends = λ _ fine disks doors. ends disks doors (due_or wrote fine);
  }
    where
      writes : Wrote due text status had took → CountsWhere (status ≡ WriteFault) had.faults took.faults
      writes (wrote_all is adds) = uncounted (λ e. subst IsDue (sym is ∙ e) may) adds.1
      writes (write_failed is stopped fails) = counted is fails.0 fails.1
      writes (write_starved is stopped same) = uncounted (λ e. let wrong : NoMemory ≡ WriteFault = sym is ∙ e in cc) same

  -- nothing was written
  pub ended_silent : {status : Status} {had took : Side} → Adds [] had took → (status ≡ WriteFault → ⊥) → (status ≡ ReadFault → Reads) → Says status
      → ((status ≡ ReadFault → ⊥) → (status ≡ DiskFault → ⊥) → Answers) → IsEnded Reads Says Answers status had took
  ended_silent nothing fine reads says ends = record { writes = uncounted fine nothing.1; reads = reads; says = says; ends = λ unread _ disks _. ends unread disks }

  -- memory ran out before anything was written
  pub ended_starved : Says NoMemory → {status : Status} {had took : Side} → IsStarved status had took → Answers → IsEnded Reads Says Answers status had took
  ended_starved says starved answers =
      ended_silent starved.1 (λ e. let wrong : NoMemory ≡ WriteFault = sym starved.0 ∙ e in cc) (λ e. absurd (let wrong : NoMemory ≡ ReadFault = sym starved.0 ∙ e in cc)) (subst Says (sym starved.0) says) (λ _ _. answers)
