-- What becomes of an input that a site has read to its end.
use Rattle.std.proofs.Common.{◌≡◌, ◌≢◌, ℕ, ◌≤◌, ◌+◌, List, [], length, Option, Some, None, IfSome, IsSome, inl, inr, refl, sym, ap, subst, ◌∙◌, arith}
use Rattle.std.specs.Io.KnownBytes.{IsAtEnd}
use Rattle.std.proofs.KnownBytes.{Appends-nil}
use Rattle.std.proofs.lemmas.List.{drop_all}
use Rattle.dcr_app.specs.Outside.{LeavesInput, TookAtMost, WereLeft, Wrote, wrote_all, write_failed, write_starved}
use Rattle.dcr_base.specs.Side.{Adds, Side}
use Rattle.dcr_base.specs.declared.status.Status.{Status}
use Rattle.dcr_base.specs.declared.status.Status.TheVariants.{Done, Refused, ReadFault, WriteFault, NoMemory, DoorFault}
use Rattle.dcr_porter.specs.Porter.{Porters}
use Rattle.dcr_apart.specs.SiteAnswer.{AnswersText, most_part, starved, not_part, not_key, served}

-- nothing was written
pub adds_none : (had : Side) → Adds [] had had
adds_none had = (Appends-nil had.bytes, refl)

-- the bytes that were read are those that were left
pub left_are : (left : Option (List ℕ)) (bytes text : List ℕ) → text ≡ bytes → IfSome left (λ it. bytes ≡ it) → WereLeft left text
left_are None bytes text same all = tt
left_are (Some it) bytes text same all = sym (same ∙ all)

-- all of them were taken
took_all : (before after : Option (List ℕ)) (text : List ℕ) → length text ≤ most_part → IfSome before (λ left. text ≡ left) → (IsSome before → IsSome after) → IsAtEnd after
    → TookAtMost (most_part + 1) before after
took_all None after text few same told over = tt
took_all (Some left) None text few same told over = let wrong = told refl in absurd cc
took_all (Some left) (Some rest) text few same told over =
    let fits : length left ≤ most_part = subst (λ l. length l ≤ most_part) same few in
    (length left, omega (arith, fits), ap Some (over ∙ sym (drop_all (length left) left (omega arith))))

-- no line is due with the status of a read that failed
line_reads : {text : List ℕ} {status : Status} {had took : Side} → Wrote Refused text status had took → status ≢ ReadFault
line_reads (wrote_all same adds) is = let wrong : Refused ≡ ReadFault = sym same ∙ is in cc
line_reads (write_failed same stopped fails) is = let wrong : WriteFault ≡ ReadFault = sym same ∙ is in cc
line_reads (write_starved same stopped equal) is = let wrong : NoMemory ≡ ReadFault = sym same ∙ is in cc

-- nor has it what else a text is answered with
text_reads : {P L R : Type 0} (tells : Porters P L R) (text : List ℕ) (key : Option (List ℕ)) (had took : Side) (before after : P) (status : Status)
    → AnswersText tells text key had took before after status → status ≢ ReadFault
text_reads tells text key had took before after status (starved it same) is = let wrong : NoMemory ≡ ReadFault = sym it.0 ∙ is in cc
text_reads tells text key had took before after status (not_part none kept wrote same) is = line_reads wrote is
text_reads tells text key had took before after status (not_key part none kept wrote same) is = line_reads wrote is
text_reads tells text key had took before after status (served part by given links silent (inl done)) is = let wrong : Done ≡ ReadFault = sym done.0 ∙ is in cc
text_reads tells text key had took before after status (served part by given links silent (inr failed)) is = let wrong : DoorFault ≡ ReadFault = sym failed ∙ is in cc

pub read_input : {P L R : Type 0} (tells : Porters P L R) (read text : List ℕ) (key : Option (List ℕ)) (had took : Side) (before after : P) (status : Status)
    → AnswersText tells text key had took before after status → (left rest : Side) (has_ended : Type 0) → length read ≤ most_part → IfSome left.bytes (λ it. read ≡ it)
    → (IsSome left.bytes → IsSome rest.bytes) → has_ended → IsAtEnd rest.bytes → rest.faults ≡ left.faults → LeavesInput (Some most_part) left rest has_ended status
read_input tells read text key had took before after status answers left rest has_ended few all told ended over same = (
  took_all left.bytes rest.bytes read few all told over,
  λ done. (ended, over),
  (omega (arith, same), λ is. absurd (text_reads tells text key had took before after status answers is), λ _. same),
)
