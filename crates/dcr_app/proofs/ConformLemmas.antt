-- What `conform` answers.
use Rattle.std.proofs.Common.{◌≡◌, ◌≢◌, ◌⊎◌, ℕ, ◌+◌, ◌<◌, ◌≤◌, arith, List, [], length, drop, take, get_or, Option, Some, None, Result, Ok, Err, inl, inr, refl, sym, ap, subst, ◌∙◌, cond}
use Rattle.std.proofs.lemmas.Bool.{le-leb, lt-leb}
use Rattle.std.proofs.lemmas.List.{drop_all, length-take-le}
use Rattle.dcr_base.specs.Disk.{DiskView}
use Rattle.dcr_base.specs.Side.{Side}
use Rattle.dcr_base.specs.declared.status.Status.{Status}
use Rattle.dcr_base.specs.declared.status.Status.TheVariants.{Done, Refused, NoMemory}
use Rattle.dcr_journal.specs.declared.closed.Closed.{Closed}
use Rattle.dcr_graph.specs.GraphValue.{Flat}
use Rattle.dcr_nest.specs.FlatRelation.{IsFlattening}
use Rattle.dcr_line.proofs.PiecesLemmas.{pieces_at, pieces_whole}
use Rattle.dcr_json.specs.Written.{Spelled}
use Rattle.dcr_format.specs.declared.stop.CaseStop.TheVariants as stop
use Rattle.dcr_log.specs.Records.{first_bad}
use Rattle.dcr_log.specs.Traces.{traces_of}
use Rattle.dcr_log.specs.declared.trace.Trace.{Trace}
use Rattle.dcr_conform.specs.Judge.{AreJudged}
use Rattle.dcr_conform.specs.Lines.{judged_text}
use Rattle.dcr_conform.specs.declared.judged.Judged.{Judged}
use Rattle.dcr_roles.specs.Accepted.{HadMemory, case_accepted}
use Rattle.dcr_roles.specs.declared.accepted.AcceptStop.{AcceptStop}
use Rattle.dcr_roles.specs.declared.accepted.AcceptStop.TheVariants as accept
use Rattle.dcr_app.specs.Answers.{AnswersPlain, RefusesBytes, bytes_starved, bytes_told}
use Rattle.dcr_app.specs.Logged.{EndsLog, InputRefusal, IsAnsweredLog, IsInputRefused, TellsLog, bad_record, case_before_log, case_bytes, first_piece, log_bytes, no_case, record_line, rows_in}
use Rattle.dcr_app.specs.Outside.{IsStarved, Wrote}
use Rattle.dcr_app.specs.Refusal.{refusal_line}
use Rattle.dcr_app.specs.declared.command.Command.TheVariants.{Read}
use Rattle.dcr_app.specs.declared.command.Reading.TheVariants.{Conform}
use Rattle.dcr_app.proofs.OutsideLemmas.{IsEnded, ended_with}
use Rattle.dcr_app.proofs.RunLemmas.{CasesAreAccepted}
use Rattle.dcr_app.proofs.SaysLemmas.{SaysAt}

-- ---- the two parts of the input

-- the first line ends at the first line end
pub case_at : (bytes : List ℕ) (at : ℕ) → at < length bytes → get_or bytes at 0 ≡ 10 → ((k : ℕ) → k < at → get_or bytes k 0 ≢ 10) → take at bytes ≡ case_bytes bytes
case_at bytes at inside here before = sym (ap first_piece (pieces_at 10 bytes at inside here before))

pub log_at : (bytes : List ℕ) (at : ℕ) → at < length bytes → take at bytes ≡ case_bytes bytes → drop (at + 1) bytes ≡ log_bytes bytes
log_at bytes at inside same = ap (λ n. drop (n + 1) bytes) (sym (length-take-le at bytes (omega (arith, inside))) ∙ ap length same)

-- without one, all is the first line, and there is no log
pub case_whole : (bytes : List ℕ) → ((k : ℕ) → k < length bytes → get_or bytes k 0 ≢ 10) → bytes ≡ case_bytes bytes
case_whole bytes none = sym (ap first_piece (pieces_whole 10 bytes none))

pub log_none : (bytes : List ℕ) → bytes ≡ case_bytes bytes → [] ≡ log_bytes bytes
log_none bytes same = sym (drop_all (length (case_bytes bytes) + 1) bytes (let fits = ap length same in omega (arith, fits)))

-- the case of an input that isn't too long is that of its first line
pub within_limit : (bytes : List ℕ) → length bytes ≤ 16777216 → case_before_log bytes ≡ case_accepted (case_bytes bytes)
within_limit bytes short = ap (λ t. cond t (case_accepted (case_bytes bytes)) (Err (accept.Case stop.TooLong))) (le-leb (length bytes) 16777216 short)

over_limit : (bytes : List ℕ) → 16777216 < length bytes → case_before_log bytes ≡ Err (accept.Case stop.TooLong)
over_limit bytes more = ap (λ t. cond t (case_accepted (case_bytes bytes)) (Err (accept.Case stop.TooLong))) (lt-leb (length bytes) 16777216 more)

-- ---- refusals

-- of the first line
pub refuses_line : (bytes line : List ℕ) (why : AcceptStop) → length bytes ≤ 16777216 → line ≡ case_bytes bytes → (HadMemory why → case_accepted line ≡ Err why) → HadMemory why
    → RefusesBytes Conform bytes (refusal_line why)
refuses_line bytes line why short same refuses had = (no_case why, (within_limit bytes short ∙ (ap case_accepted (sym same) ∙ refuses had), had), refl)

-- of the log behind a case
pub refuses_log : (bytes : List ℕ) (case : Spelled) (row : ℕ) → length bytes ≤ 16777216 → case_accepted (case_bytes bytes) ≡ Ok case → first_bad (rows_in bytes) ≡ Some row
    → RefusesBytes Conform bytes (record_line row)
refuses_log bytes case row short spelled bad = (bad_record row, (case, within_limit bytes short ∙ spelled, bad), refl)

-- ---- answers

-- the traces were judged
pub told_log : CasesAreAccepted → (bytes : List ℕ) (case : Spelled) (graph : Flat) (traces : List Trace) (had took : Side) (status : Status)
    → case_accepted (case_bytes bytes) ≡ Ok case → first_bad (rows_in bytes) ≡ None → IsFlattening case.nested graph → traces ≡ traces_of (drop 1 (rows_in bytes))
    → IsStarved status had took ⊎ ((answers : List Judged) × AreJudged graph case.opening traces answers × Wrote Done (judged_text graph.names traces answers) status had took)
    → AnswersPlain Conform bytes had took (record { 0 = status; 1 = None; 2 = None })
told_log law bytes case graph traces had took status spelled good flat same (inl starved) = bytes_starved (refl, refl) starved
told_log law bytes case graph traces had took status spelled good flat same (inr it) = bytes_told (
  (refl, refl),
  record {
    case = case;
    accepts = (law (case_bytes bytes) case).0 spelled;
    good = good;
    graph = graph;
    flat = flat;
    answers = it.0;
    judged = subst (λ (t : List Trace). AreJudged graph case.opening t it.0) same it.1;
    wrote = subst (λ (t : List Trace). Wrote Done (judged_text graph.names t it.0) status had took) same it.2;
  },
)

-- ---- how it ended

pub log_ended : CasesAreAccepted → (before after : DiskView) (left : Option (List ℕ)) (bytes : List ℕ) (had took : Side) (closed_run : Option Closed) (status : Status) → length bytes ≤ 16777216
    → TellsLog bytes had took status → IsEnded ⊥ (SaysAt (Some (Read Conform)) before after left had took closed_run) (IsAnsweredLog bytes status) status had took
log_ended law before after left bytes had took closed_run status short it =
    let is : case_before_log bytes ≡ Ok it.case = within_limit bytes short ∙ (law (case_bytes bytes) it.case).1 it.accepts in
    ended_with ⊥ (SaysAt (Some (Read Conform)) before after left had took closed_run) (IsAnsweredLog bytes status) tt tt tt it.wrote (λ adds. tt)
    (λ _ _ or. subst (λ (r : Result Spelled AcceptStop). EndsLog r (first_bad (rows_in bytes)) status) (sym is) (subst (λ (found : Option ℕ). EndsLog (Ok it.case) found status) (sym it.good) or))

-- what an input and an output that don't fail end with
pub starved_log : (r : Result Spelled AcceptStop) (found : Option ℕ) (status : Status) → status ≡ NoMemory → EndsLog r found status
starved_log (Err why) found status e = inr e
starved_log (Ok case) (Some row) status e = inr e
starved_log (Ok case) None status e = inr e

pub refused_log : (bytes : List ℕ) (why : InputRefusal) (status : Status) → IsInputRefused bytes why → (status ≡ Refused) ⊎ (status ≡ NoMemory) → IsAnsweredLog bytes status
refused_log bytes (no_case why) status refuses ends = subst (λ (r : Result Spelled AcceptStop). EndsLog r (first_bad (rows_in bytes)) status) (sym refuses.0) ends
refused_log bytes (bad_record row) status refuses ends =
    subst (λ (r : Result Spelled AcceptStop). EndsLog r (first_bad (rows_in bytes)) status) (sym refuses.1)
    (subst (λ (found : Option ℕ). EndsLog (Ok refuses.0) found status) (sym refuses.2) ends)

-- a longer input is refused
pub long_log : (bytes : List ℕ) (status : Status) → 16777216 < length bytes → (status ≡ Refused) ⊎ (status ≡ NoMemory) → IsAnsweredLog bytes status
long_log bytes status more ends = subst (λ (r : Result Spelled AcceptStop). EndsLog r (first_bad (rows_in bytes)) status) (sym (over_limit bytes more)) ends
