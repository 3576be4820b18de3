-- What is known of a case that was executed.
use Rattle.std.proofs.Common.{◌≡◌, ◌≢◌, ◌⊎◌, ℕ, ◌≤◌, Bool, true, false, List, [], length, Option, Some, None, Ok, inl, inr, refl, sym, subst, ◌∙◌}
use Rattle.std.specs.Prelude.{⊤}
use Rattle.std.proofs.lemmas.Option.{slice_get_within}
use Rattle.dcr_base.specs.Disk.{DiskView}
use Rattle.dcr_base.specs.Door.{Doors}
use Rattle.dcr_base.specs.Side.{Side}
use Rattle.dcr_base.specs.declared.status.Status.{Status}
use Rattle.dcr_base.specs.declared.status.Status.TheVariants.{Done, ReadFault, WriteFault, DiskFault, Full, TapeRefused}
use Rattle.dcr_journal.specs.Run.{HasNoFault}
use Rattle.dcr_journal.specs.declared.closed.Closed.{Closed}
use Rattle.dcr_journal.specs.declared.call.Entry.{Entry}
use Rattle.dcr_tape.specs.Laws.{NoCause, OneList}
use Rattle.dcr_tape.specs.Opening.{most_records}
use Rattle.dcr_tape.specs.Tape.{StandsFor}
use Rattle.dcr_tape.specs.declared.cause.TapeCause.{TapeCause}
use Rattle.dcr_tape.specs.declared.entry.TapeEntry.{TapeEntry}
use Rattle.dcr_cluster.specs.Opening.{ArePossible, IsFirstBad}
use Rattle.dcr_engine.specs.Served.{most_served}
use Rattle.dcr_serving.specs.declared.end.LinkEnd.{LinkEnd}
use Rattle.dcr_json.specs.Written.{Spelled}
use Rattle.dcr_roles.specs.Accepted.{case_accepted}
use Rattle.dcr_roles.specs.Laws.{AcceptedAreTheFormats}
use Rattle.dcr_report.specs.Report.{report_text}
use Rattle.dcr_app.specs.Answers.{EndsRun, IsAnsweredCase, IsOr, IsTapeRefused, TellsCase, TellsRun, has_failed, is_tape_refused}
use Rattle.dcr_app.specs.Headline.{BeginsWith, cluster_in, digest_of}
use Rattle.dcr_app.specs.Outside.{WereLeft, wrote_all}
use Rattle.dcr_app.specs.Stored.{RefusesTape, by_bytes, by_execution}
use Rattle.dcr_app.specs.Telling.{IsServing, Telling, told_by}
use Rattle.dcr_app.specs.declared.command.Command.TheVariants.{Read}
use Rattle.dcr_app.specs.declared.command.Reading.TheVariants.{Execute}
use Rattle.dcr_app.specs.declared.command.Way.{Way}
use Rattle.dcr_app.specs.declared.command.Way.TheVariants.{Run, Serve}
use Rattle.dcr_app.proofs.DueLemmas.{by_due}
use Rattle.dcr_app.proofs.OutsideLemmas.{IsDue, IsEnded, ended_silent, ended_with}
use Rattle.dcr_app.proofs.RunLemmas.{read_as}
use Rattle.dcr_app.proofs.SaysLemmas.{SaysAt}
use Rattle.dcr_app.proofs.TapeLemmas.{one_stands}

-- the first execution that can't be done is one that can't
bad_and_possible : (case : Spelled) (old : List TapeEntry) (at : ℕ) → IsFirstBad (cluster_in case old) at → ArePossible (cluster_in case old) (length old) → ⊥
bad_and_possible case old at bad possible = bad.impossible (possible at bad.execution (slice_get_within old at bad.execution bad.there) bad.there)

-- a content that is gone on from is not refused
gone_on_from : OneList → NoCause → (case : Spelled) (content : List ℕ) (cause : TapeCause) (old : List TapeEntry) → RefusesTape case content cause
    → StandsFor (digest_of case) old content → length old ≤ most_records → ArePossible (cluster_in case old) (length old) → ⊥
gone_on_from one none case content cause old (by_bytes shown stands) here few possible = none (digest_of case) content cause old shown stands here few
gone_on_from one none case content cause old (by_execution at is other there few' bad) here few possible =
    let same : other ≡ old = (one_stands one content (digest_of case) (digest_of case) other old there here).1 in
    bad_and_possible case old at (subst (λ l. IsFirstBad (cluster_in case l) at) same bad) possible

module _ {D B L R : Type 0} (view : D → DiskView) (faults : D → ℕ) (doors : Doors B L R) (door after_door : B) (ends : List (LinkEnd L R)) (way : Way) (store : Bool) (before after : D)
    (bytes : List ℕ) (had took : Side) (status : Status) where
  abbrev telling : Telling D
  telling = told_by doors door after_door ends way

  -- a history is full, and a door fails, in `serve` alone
  full_by : (w : Way) (J : List Entry) → (told_by {D = D} doors door after_door ends w).full J → IsServing (Some (Read (Execute w store))) × (length J ≡ most_served)
  full_by (Run workers) J full = elim full [ ]
  full_by (Serve sessions workers) J full = (refl, full)

  failed_by : (w : Way) → (told_by {D = D} doors door after_door ends w).door_failed → IsServing (Some (Read (Execute w store)))
  failed_by (Run workers) failed = elim failed [ ]
  failed_by (Serve sessions workers) failed = refl

  done_by : (w : Way) → IsOr Done status → EndsRun w status
  done_by (Run workers) or = or
  done_by (Serve sessions workers) or = inr or

  filled_by : (w : Way) (J : List Entry) → (told_by {D = D} doors door after_door ends w).full J → IsOr Full status → EndsRun w status
  filled_by (Run workers) J full or = elim full [ ]
  filled_by (Serve sessions workers) J full (inl e) = inl e
  filled_by (Serve sessions workers) J full (inr e) = inr (inr e)

  module _ (left : Option (List ℕ)) (read : WereLeft left bytes) (law : AcceptedAreTheFormats) (one : OneList) (none : NoCause) where
    abbrev Answered : Type 0
    Answered = IsAnsweredCase (EndsRun way) store (view before) (case_accepted bytes) status

    abbrev Said : Option Closed → Status → Type 0
    Said closed_run = SaysAt (Some (Read (Execute way store))) (view before) (view after) left had took closed_run

    -- a run that is told
    module _ (closed : Closed) (it : TellsRun view faults telling store before after (Some bytes) ⊤ had took status closed) where
      on_store : (s : Bool) → store ≡ s → (HasNoFault closed.history.entries → ⊥) → store ≡ true
      on_store true is some = is
      on_store false is some = absurd (some (it.headline.history.3 (inr is)))

      other : {named : Status} → (status ≡ named → ⊥) → IsOr named status → EndsRun way status
      other never (inl e) = absurd (never e)
      other never (inr e) = done_by way (inr e)

      not_refused : {cause : TapeCause} → RefusesTape it.case (view before).content cause → (view before).content ≢ []
          → (((view before).content ≡ []) × (it.old ≡ [])) ⊎ StandsFor (digest_of it.case) it.old (view before).content → ⊥
      not_refused refuses some (inl empty) = some empty.0
      not_refused {cause} refuses some (inr stands) = gone_on_from one none it.case (view before).content cause it.old refuses stands it.few it.possible

      ran : (s : Bool) → s ≡ store → EndsRun way status → IsAnsweredCase (EndsRun way) s (view before) (Ok it.case) status
      ran false on done = done
      ran true on done = λ told. record {
        empty = λ _. done;
        goes_on = λ _ _ _ _. done;
        refused = λ cause some refuses. absurd (not_refused refuses some (subst (λ s. BeginsWith s (digest_of it.case) (view before) it.old) (sym on) it.headline.history.0 told));
      }

      run_ended : IsEnded ⊥ (Said (Some closed)) Answered status had took
      run_ended =
          let due = it.headline.report.0 in let due_is = it.headline.report.1 in let J = closed.history.entries in
          ended_with ⊥ (Said (Some closed)) Answered tt tt (by_due IsDue (λ _. tt) (λ _ _. tt) (λ _ _. tt) (λ _ _. tt) due_is) it.headline.report.2
          (λ adds. by_due (Said (Some closed)) (λ some. on_store store refl some) (λ _ all. full_by way J all) (λ _ fell. (failed_by way fell, λ untold. let wrong : Some closed ≡ None = untold in cc))
          (λ _ _. (report_text it.case.nested it.case.cover closed.opening J, adds.0, it.legal)) due_is)
          (λ disks fell or. subst (λ r. IsAnsweredCase (EndsRun way) store (view before) r status) (sym (read_as view faults telling store before after law bytes ⊤ had took status closed it))
          (ran store refl (by_due (λ s. IsOr s status → EndsRun way status) (λ _. other disks) (λ _ all. filled_by way J all) (λ _ _. other fell) (λ _ _. done_by way) due_is or)))

    -- a tape that is refused
    tape_refused : (it : IsTapeRefused bytes (view before) (view after) had took status) → IsOr TapeRefused status → IsAnsweredCase (EndsRun way) true (view before) (Ok it.case) status
    tape_refused it or = λ told.
        let was = it.shows.was told in
        let here : RefusesTape it.case (view before).content it.cause = subst (λ l. RefusesTape it.case l it.cause) (sym was) it.shows.stands in
        record {
          empty = λ empty. absurd (it.shows.some (sym was ∙ empty));
          goes_on = λ old stands few possible. absurd (gone_on_from one none it.case (view before).content it.cause old here stands few possible);
          refused = λ _ _ _. or;
        }

    pub case_ended : (closed_run : Option Closed) → TellsCase view faults telling store before after bytes had took status closed_run → IsEnded ⊥ (Said closed_run) Answered status had took
    case_ended (Some closed) it = run_ended closed it
    case_ended None (has_failed on is nothing) =
        ended_silent ⊥ (Said None) Answered nothing (λ e. let wrong : DiskFault ≡ WriteFault = sym is ∙ e in cc) (λ e. let wrong : DiskFault ≡ ReadFault = sym is ∙ e in cc) (subst (Said None) (sym is) on)
        (λ _ disks. absurd (disks is))
    case_ended None (is_tape_refused on it) =
        ended_with ⊥ (Said None) Answered tt tt tt it.line
        (λ adds. (on, (bytes, read, record { case = it.case; spelled = it.spelled; cause = it.cause; shows = it.shows; line = wrote_all refl adds })))
        (λ _ _ or. subst (λ r. IsAnsweredCase (EndsRun way) store (view before) r status) (sym it.spelled)
        (subst (λ s. IsAnsweredCase (EndsRun way) s (view before) (Ok it.case) status) (sym on) (tape_refused it or)))
