-- What is known of a report that was checked.
use Rattle.std.proofs.Common.{◌≡◌, ◌⊎◌, ℕ, ◌≤◌, List, length, Option, Some, None, inl, inr, refl, ap, subst, arith}
use Rattle.std.specs.Prelude.{⊤}
use Rattle.dcr_base.specs.Disk.{DiskView}
use Rattle.dcr_base.specs.Side.{Adds, Side}
use Rattle.dcr_base.specs.declared.status.Status.{Status}
use Rattle.dcr_journal.specs.declared.closed.Closed.{Closed}
use Rattle.dcr_replay.specs.FirstWrong.{IsVerdict}
use Rattle.dcr_replay.specs.Laws.{IsReport}
use Rattle.dcr_replay.specs.LeastWrong.{IsLeastWrong}
use Rattle.dcr_replay.specs.OneVerdict.{VerdictIsOne}
use Rattle.dcr_replay.specs.declared.verdict.Verdict.{Verdict}
use Rattle.dcr_replay.specs.declared.verdict.Verdict.TheVariants as verdict
use Rattle.dcr_app.specs.Answers.{AnswersPlain, IsAnsweredReport, IsChecked, IsOr, bytes_starved, bytes_told, verdict_line, verdict_status}
use Rattle.dcr_app.specs.Outside.{IsStarved, WereLeft, Wrote}
use Rattle.dcr_app.specs.declared.command.Command.TheVariants.{Read}
use Rattle.dcr_app.specs.declared.command.Reading.TheVariants.{Replay}
use Rattle.dcr_app.proofs.OutsideLemmas.{IsDue, IsEnded, ended_with, of_left}
use Rattle.dcr_app.proofs.SaysLemmas.{SaysAt}

-- the line of a verdict is due
verdict_is_due : (v : Verdict) → IsDue (verdict_status v)
verdict_is_due (verdict.Valid count) = tt
verdict_is_due (verdict.Invalid line kind) = tt

-- the line of a verdict was told
pub told_verdict : (bytes : List ℕ) (v : Verdict) (had took : Side) (due status : Status) → IsVerdict bytes v → due ≡ verdict_status v → IsStarved status had took ⊎ (⊤ × Wrote due (verdict_line v) status had took)
    → AnswersPlain Replay bytes had took (record { 0 = status; 1 = None; 2 = None })
told_verdict bytes v had took due status is due_is (inl starved) = bytes_starved (refl, refl) starved
told_verdict bytes v had took due status is due_is (inr it) =
    bytes_told ((refl, refl), record { found = v; is = is; line = subst (λ (d : Status). Wrote d (verdict_line v) status had took) due_is it.1 })

pub report_ended : VerdictIsOne → (before after : DiskView) (left : Option (List ℕ)) (bytes : List ℕ) (had took : Side) (closed_run : Option Closed) (status : Status)
    → WereLeft left bytes → length bytes ≤ 268435456 → IsChecked bytes had took status
    → IsEnded ⊥ (SaysAt (Some (Read Replay)) before after left had took closed_run) (IsAnsweredReport bytes status) status had took
report_ended one before after left bytes had took closed_run status read short it =
    ended_with ⊥ (SaysAt (Some (Read Replay)) before after left had took closed_run) (IsAnsweredReport bytes status) tt tt (verdict_is_due it.found) it.line (of_verdict it.found it.is)
    (λ _ _ or. (λ more. absurd (omega (arith, more, short)), λ few v is. subst (λ s. IsOr s status) (ap verdict_status (one bytes it.found v it.is is)) or))
  where
    of_verdict : (v : Verdict) → IsVerdict bytes v → Adds (verdict_line v) had took → SaysAt (Some (Read Replay)) before after left had took closed_run (verdict_status v)
    of_verdict (verdict.Valid count) is adds = record { count = count; report = of_left (λ it. IsReport it count) left bytes read is; wrote = adds.0 }
    of_verdict (verdict.Invalid number kind) is adds = (
      refl,
      record {
        line = number;
        kind = kind;
        first = of_left (λ it. IsVerdict it (verdict.Invalid number kind)) left bytes read is;
        least = of_left (λ it. IsLeastWrong it number) left bytes read is.least;
        no_report = of_left (λ it. (count : ℕ) → IsReport it count → ⊥) left bytes read
            (λ count report. let wrong : verdict.Invalid number kind ≡ verdict.Valid count = one bytes (verdict.Invalid number kind) (verdict.Valid count) is report in cc);
        wrote = adds.0;
      },
    )
