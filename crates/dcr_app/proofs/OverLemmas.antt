-- What a run over a store tells, without a tape and over one that was opened, and what becomes of the disk where there was none.
use Rattle.std.proofs.Common.{◌≡◌, ◌≢◌, ◌⊎◌, ℕ, ◌<◌, ◌≤◌, arith, Bool, true, false, IsTrue, List, [], length, Some, None, Ok, inl, inr, refl, sym, ap, subst, ◌∙◌}
use Rattle.std.specs.Prelude.{slice_get, ⊤}
use Rattle.std.specs.List.{All}
use Rattle.dcr_base.specs.Count.{Rose}
use Rattle.dcr_base.specs.Disk.{DiskView}
use Rattle.dcr_base.specs.Side.{Side}
use Rattle.dcr_base.specs.declared.status.Status.{Status}
use Rattle.dcr_base.specs.declared.status.Status.TheVariants.{Done, Refused, ReadFault, NoMemory, DiskFault, Full, TapeRefused, DoorFault}
use Rattle.dcr_graph.specs.Cause.{waits}
use Rattle.dcr_graph.specs.GraphValue.{Flat, rules_of}
use Rattle.dcr_graph.specs.Rules.{Rules}
use Rattle.dcr_graph.specs.declared.marking.Marking.{Marking}
use Rattle.dcr_proj.specs.CoverValue.{Owners}
use Rattle.dcr_journal.specs.Run.{HasNoFault, IsLegal, after, marks_at}
use Rattle.dcr_journal.specs.declared.call.Entry.{Entry}
use Rattle.dcr_journal.specs.declared.closed.Closed.{Closed}
use Rattle.dcr_turn.specs.Pushing.{EndsWithoutFault}
use Rattle.dcr_tape.specs.Found.{CountsFaultOf}
use Rattle.dcr_tape.specs.Kept.{part_of}
use Rattle.dcr_tape.specs.Laws.{OneList}
use Rattle.dcr_tape.specs.Opening.{Opened, IsShown, most_records}
use Rattle.dcr_tape.specs.Opening.{Refused as NotOpened}
use Rattle.dcr_tape.specs.declared.cause.TapeCause.{TapeCause}
use Rattle.dcr_tape.specs.declared.cause.TapeCause.TheVariants as cause
use Rattle.dcr_tape.specs.declared.entry.TapeEntry.{TapeEntry}
use Rattle.dcr_tape.specs.declared.tape.Store.{Store}
use Rattle.dcr_tape.specs.declared.tape.Store.TheVariants.{Off, On}
use Rattle.dcr_tape.specs.declared.tape.Tape.{Tape}
use Rattle.dcr_cell.specs.ClusterId.{ClusterId}
use Rattle.dcr_cell.specs.Stored.{MayBegin, StoreStands, TapeStands}
use Rattle.dcr_cluster.specs.Opening.{ArePossible, IsFirstBad, IsCause, Leaves}
use Rattle.dcr_cluster.specs.Opening.{Refused as NotOpenedCluster}
use Rattle.dcr_cluster.specs.declared.refused.OpenCause.{OpenCause}
use Rattle.dcr_cluster.specs.declared.refused.OpenCause.TheVariants as opening
use Rattle.dcr_engine.specs.Ran.{IsWhole, cluster_of}
use Rattle.dcr_json.specs.Built.{IsCase, case_of}
use Rattle.dcr_json.specs.Written.{Spelled}
use Rattle.dcr_json.specs.declared.case.Case.{Case}
use Rattle.dcr_report.specs.Report.{report_text}
use Rattle.dcr_policy.specs.Roles.{Roles}
use Rattle.dcr_roles.specs.Accepted.{accepted_in, case_accepted}
use Rattle.dcr_roles.specs.Laws.{AcceptedAreTheFormats}
use Rattle.dcr_app.specs.Answers.{AnswersBytes, TellsNone, TellsRun, bytes_starved, bytes_told, has_failed, is_tape_refused}
use Rattle.dcr_app.specs.Headline.{cluster_in, digest_of}
use Rattle.dcr_app.specs.Outside.{CountsWhere, Wrote}
use Rattle.dcr_app.specs.Stored.{Begins, EndsFor, HasKept, IsRunOn, IsUnrun, KeepsContent, LeavesDisk, RanOver, RefusedOver, by_bytes, by_execution, disk_in, tape_cause, tape_lost, tape_starved, tape_told}
use Rattle.dcr_app.specs.Telling.{IsDueBy, Telling}
use Rattle.dcr_app.specs.declared.command.Reading.TheVariants.{Execute}
use Rattle.dcr_app.specs.declared.command.Way.{Way}
use Rattle.dcr_app.proofs.DueLemmas.{by_due, due_of, either_way}
use Rattle.dcr_app.proofs.OutsideLemmas.{by_wrote, counted, uncounted, wrote_at}
use Rattle.dcr_app.proofs.RunLemmas.{report_of_run, tells_run}
use Rattle.dcr_app.proofs.TapeLemmas.{content_opened, content_refused, content_same, has_kept, honest_now, making_opened, making_refused, making_then, none_made, settled_same, still_opened, still_refused, still_same, still_then, stood, stood_for}

-- ---- statuses

-- a command with this status has called its disk
abbrev IsCalled : Status → Type 0
IsCalled Refused = ⊥
IsCalled ReadFault = ⊥
IsCalled status = Unit {0}

not_uncalled : (status : Status) → IsCalled status → (status ≡ Refused) ⊎ (status ≡ ReadFault) → ⊥
not_uncalled status called (inl is) = subst IsCalled is called
not_uncalled status called (inr is) = subst IsCalled is called

-- ---- over the cluster of a case

pub run_on : {D : Type 0} (view : D → DiskView) (faults : D → ℕ) (graph : Flat) (cover : Owners) (M : Marking) (old : List TapeEntry) (first : Store D) (closed : Closed) (last : Store D)
    → IsWhole view faults (cluster_of graph cover M old) first closed last → IsRunOn graph cover.owned closed
run_on view faults graph cover M old first closed last whole =
    let G = rules_of graph in let C = cover.owned in let J = closed.history.entries in record {
      room = whole.room;
      legal = subst (λ (N : Marking). IsLegal G C N J) (sym whole.opening) whole.legal;
      marks = whole.marks ∙ ap (λ (N : Marking). marks_at G C (after G N J)) (sym whole.opening);
      waits = whole.waits ∙ ap (λ (N : Marking). waits G.atoms (after G N J)) (sym whole.opening);
    }

module _ {D : Type 0} (view : D → DiskView) (faults : D → ℕ) (case : Case) (is : IsCase case) (old : List TapeEntry) (first : Store D) where
  -- the rules of a case's graph are those of its nested graph
  same_cluster : cluster_of case.graph case.cover case.opening old ≡ cluster_in (case_of case) old
  same_cluster = ap (λ (G : Rules). record { rules = G; owned = case.cover.owned; opening = case.opening; old = old }) is.flat.related

  pub ran_over : (telling : Telling D) (policy : Roles) (disk : D) (due : Status) (closed : Closed) (last : Store D) (most : ℕ) {failed : Type 0} → IsWhole view faults (cluster_of case.graph case.cover case.opening old) first closed last
      → ArePossible (cluster_of case.graph case.cover case.opening old) (length old) → disk ≡ disk_in last → telling.sessions first (case_of case) policy closed.history.entries
      → telling.order closed.history.entries → IsDueBy (EndsWithoutFault closed.history.entries) (telling.full closed.history.entries) failed due → (failed → telling.door_failed) → most ≤ 1024
      → All (λ (entry : Entry). entry.session < most) closed.history.entries → RanOver view faults telling (case_of case) policy old first disk due closed
  ran_over telling policy disk due closed last most whole possible same sessions order due_is failed few only =
      let run = run_on view faults case.graph case.cover case.opening old first closed last whole in record {
        last = last;
        same = same;
        possible = subst (λ (k : ClusterId). ArePossible k (length old)) same_cluster possible;
        whole = subst (λ (k : ClusterId). IsWhole view faults k first closed last) same_cluster whole;
        sessions = sessions;
        order = order;
        due_is = due_of (rules_of case.graph) case.cover.owned closed.opening closed.history.entries due run.legal failed due_is;
        legal = report_of_run case closed most is run few only whole.most_entries;
      }

  pub refused_over : (disk : D) (why : TapeCause) (open_cause : OpenCause) (last : Store D) → why ≡ tape_cause open_cause → disk ≡ disk_in last
      → NotOpenedCluster view faults (cluster_of case.graph case.cover case.opening old) first open_cause last → RefusedOver view faults (case_of case) old first disk why
  refused_over disk why open_cause last why_is same refused = record {
    cause = open_cause;
    is = why_is;
    last = last;
    same = same;
    refused = subst (λ (k : ClusterId). NotOpenedCluster view faults k first open_cause last) same_cluster refused;
  }

-- ---- without a tape

pub off_stands : {D : Type 0} (view : D → DiskView) (faults : D → ℕ) (before : D) (J : List Entry) (last : Store D)
    → StoreStands view faults (Some (Off before)) [] J last → (disk_in last ≡ before) × HasNoFault J
off_stands view faults before J (Off disk) stands = stands
off_stands view faults before J (On tape) stands = elim stands [ ]

module _ {D : Type 0} (view : D → DiskView) (faults : D → ℕ) (case : Spelled) (before end : D) (why : TapeCause) where
  -- memory ran out, and the disk is as it was
  off_unrun : RefusedOver view faults case [] (Off before) end why → IsUnrun view faults false case before end why
  off_unrun it =
      let starved = by_cause it.cause it.last it.refused.stands it.refused.leaves in let same = it.same ∙ starved.1 in let is = it.is ∙ starved.0 in
      let settled = settled_same view before end NoMemory same in record {
        unstored = λ _. (is, same);
        shows = λ shown. elim (subst IsShown is shown) [ ];
        counts = uncounted (λ lost. let wrong : cause.NoMemory ≡ cause.DiskFault = sym is ∙ lost in cc) (ap faults same);
        still = still_same view before end same;
        steady = λ _. settled.steady (λ e. let wrong : NoMemory ≡ DiskFault = e in cc);
        making = settled.empty;
        content = λ bytes _ told. content_same view (Some bytes) before end same told;
      }
    where
      by_cause : (open_cause : OpenCause) (last : Store D) → IsCause (cluster_in case []) open_cause → Leaves view faults [] open_cause (Off before) last → (tape_cause open_cause ≡ cause.NoMemory) × (disk_in last ≡ before)
      by_cause opening.NoMemory last stands leaves = (refl, ap disk_in leaves)
      by_cause (opening.BadTape at) last stands leaves = absurd (let there = stands.there in cc)
      by_cause opening.DiskFault last stands leaves = elim leaves [ ]

-- ---- over a tape

on_stands : {D : Type 0} (view : D → DiskView) (faults : D → ℕ) (tape : Tape D) (old : List TapeEntry) (J : List Entry) (last : Store D)
    → StoreStands view faults (Some (On tape)) old J last → (now : Tape D) × (disk_in last ≡ now.disk) × TapeStands view faults tape old J now
on_stands view faults tape old J (Off disk) stands = elim stands [ ]
on_stands view faults tape old J (On now) stands = (now, refl, stands)

module _ {D : Type 0} (view : D → DiskView) (faults : D → ℕ) (case : Spelled) (one : OneList) (before : D) (tape : Tape D) (old : List TapeEntry)
    (long : length (digest_of case) ≡ 32) (opened : Opened (view before) (view tape.disk) (digest_of case) (part_of tape) old) (same_faults : faults tape.disk ≡ faults before) where
  abbrev digest : List ℕ
  digest = digest_of case

  some_there : (at : ℕ) → IsFirstBad (cluster_in case old) at → opened.before ≢ []
  some_there at bad empty =
      let none : old ≡ [] = none_made view faults one before tape digest old long opened empty in
      let there : slice_get [] at ≡ Some bad.execution = subst (λ (l : List TapeEntry). slice_get l at ≡ Some bad.execution) none bad.there in cc

  content_left : (end : D) (bytes : List ℕ) → case_accepted bytes ≡ Ok case → IsTrue (view before).told → KeepsContent (Some bytes) (view before) (view end)
  content_left end bytes spelled told = content_opened view faults one before tape digest old long opened bytes case spelled refl told end

  -- no call was made
  on_left : (open_cause : OpenCause) (last : Store D) → IsCause (cluster_in case old) open_cause → Leaves view faults old open_cause (On tape) last
      → IsUnrun view faults true case before (disk_in last) (tape_cause open_cause)
  on_left opening.NoMemory (On now) stands leaves = record {
    unstored = λ off. absurd cc;
    shows = λ shown. elim shown [ ];
    counts = uncounted (λ e. let wrong : cause.NoMemory ≡ cause.DiskFault = e in cc) (leaves.1 ∙ same_faults);
    still = still_then view faults one before tape digest old long opened now.disk leaves.0;
    steady = λ _ steady. leaves.2 (honest_now view faults one before tape digest old long opened steady.honest);
    making = making_then view faults one before tape digest old long opened now.disk leaves.0;
    content = content_left now.disk;
  }
  on_left opening.NoMemory (Off disk) stands leaves = absurd cc
  on_left opening.DiskFault (On now) stands leaves = record {
    unstored = λ off. absurd cc;
    shows = λ shown. elim shown [ ];
    counts = counted refl (subst (λ n. n ≤ faults now.disk) same_faults leaves.1) (subst (λ n. Rose n (faults now.disk)) same_faults leaves.2);
    still = still_then view faults one before tape digest old long opened now.disk leaves.0;
    steady = λ other. absurd (other refl);
    making = making_then view faults one before tape digest old long opened now.disk leaves.0;
    content = content_left now.disk;
  }
  on_left opening.DiskFault (Off disk) stands leaves = elim leaves [ ]
  on_left (opening.BadTape at) last stands leaves =
      let some = some_there at stands in
      subst (λ (s : Store D). IsUnrun view faults true case before (disk_in s) (cause.BadTape at)) (sym leaves) (record {
        unstored = λ off. absurd cc;
        shows = λ shown. record {
          content = opened.before;
          was = opened.was;
          stays = (opened.told, opened.kept some);
          some = some;
          stands = by_execution at refl old (stood view faults one before tape digest old long opened some) opened.few stands;
        };
        counts = uncounted (λ e. let wrong : cause.BadTape at ≡ cause.DiskFault = e in cc) same_faults;
        still = still_opened view faults one before tape digest old long opened;
        steady = λ _ steady. opened.steady steady.honest;
        making = making_opened view faults one before tape digest old long opened;
        content = content_left tape.disk;
      })

  on_unrun : (end : D) (why : TapeCause) → RefusedOver view faults case old (On tape) end why → IsUnrun view faults true case before end why
  on_unrun end why it =
      subst (λ (d : D). IsUnrun view faults true case before d why) (sym it.same)
      (subst (λ (w : TapeCause). IsUnrun view faults true case before (disk_in it.last) w) (sym it.is) (on_left it.cause it.last it.refused.stands it.refused.leaves))

-- ---- over the store that a run begins with

pub may_begin : {D : Type 0} (view : D → DiskView) (faults : D → ℕ) (digest : List ℕ) (store : Bool) (before : D) (first : Store D) (old : List TapeEntry) → Begins view faults digest store before first old
    → MayBegin view old first
may_begin view faults digest true before (On tape) old begins = begins.may_begin
may_begin view faults digest true before (Off disk) old begins = elim begins [ ]
may_begin view faults digest false before first old begins = subst (MayBegin view old) (sym begins.0) tt

pub few_begin : {D : Type 0} (view : D → DiskView) (faults : D → ℕ) (digest : List ℕ) (store : Bool) (before : D) (first : Store D) (old : List TapeEntry) → Begins view faults digest store before first old
    → length old ≤ most_records
few_begin view faults digest true before (On tape) old begins = begins.opened.few
few_begin view faults digest true before (Off disk) old begins = elim begins [ ]
few_begin view faults digest false before first old begins = let none = ap length begins.1 in omega (arith, none)

module _ {D : Type 0} (view : D → DiskView) (faults : D → ℕ) (one : OneList) (case : Spelled) (long : length (digest_of case) ≡ 32) (before end : D) where
  -- no call was made
  pub unrun_begun : (store : Bool) (first : Store D) (old : List TapeEntry) (why : TapeCause) → Begins view faults (digest_of case) store before first old → RefusedOver view faults case old first end why
      → IsUnrun view faults store case before end why
  unrun_begun true (On tape) old why begins it = on_unrun view faults case one before tape old long begins.opened begins.no_fault end why it
  unrun_begun true (Off disk) old why begins it = elim begins [ ]
  unrun_begun false first old why begins it =
      off_unrun view faults case before end why
      (subst (λ s. RefusedOver view faults case [] s end why) begins.0 (subst (λ l. RefusedOver view faults case l first end why) begins.1 it))

  module _ (law : AcceptedAreTheFormats) (telling : Telling D) (policy : Roles) (due : Status) (closed : Closed) (bytes : List ℕ) (had took : Side) (status : Status)
      (spelled : accepted_in bytes ≡ Ok (record { case = case; policy = policy })) (wrote : Wrote due (report_text case.nested case.cover closed.opening closed.history.entries) status had took) where
    abbrev TellsIt : Bool → Type 0
    TellsIt store = TellsRun view faults telling store before end (Some bytes) ⊤ had took status closed × LeavesDisk store view faults (Some bytes) before end status (Some closed)

    over_tape : (tape : Tape D) (old : List TapeEntry) → Begins view faults (digest_of case) true before (On tape) old → RanOver view faults telling case policy old (On tape) end due closed → TellsIt true
    over_tape tape old begins over = (
      tells_run view faults law telling true before end bytes case policy old (On tape) had took status due closed spelled begins.opened.few
          (stood_for view faults one before tape (digest_of case) old long begins.opened) over wrote kept (λ e. absurd cc) (λ taped. refl),
      record {
        never_falls = no_fewer (either_way over.due_is);
        counted = λ is. (kept.failed (fault_told is)).1;
        told = λ none _. absurd cc;
        still = λ none. absurd cc;
        settled = λ none. absurd cc;
        content = λ none _. absurd cc;
        uncalled = λ is. absurd (called is);
      },
    )
      where
        kept : HasKept view faults (digest_of case) old closed.history.entries before end
        kept =
            let stands = on_stands view faults tape old closed.history.entries over.last over.whole.stored in
            subst (λ d. HasKept view faults (digest_of case) old closed.history.entries before d) (sym (over.same ∙ stands.1))
            (has_kept view faults one before tape (digest_of case) old long begins.opened closed.history.entries stands.0 stands.2 begins.no_fault (either_way over.due_is))

        no_fewer : HasNoFault closed.history.entries ⊎ (¬ HasNoFault closed.history.entries) → faults before ≤ faults end
        no_fewer (inl none) = let same = kept.no_fault none in omega (arith, same)
        no_fewer (inr some) = (kept.failed some).0

        -- the report that is due with the status of a fault tells one
        fault_told : status ≡ DiskFault → HasNoFault closed.history.entries → ⊥
        fault_told is none =
            by_due (λ s. DiskFault ≡ s → ⊥) (λ some _. some none) (λ _ _ e. let wrong : DiskFault ≡ Full = e in cc) (λ _ _ e. let wrong : DiskFault ≡ DoorFault = e in cc)
            (λ _ _ e. let wrong : DiskFault ≡ Done = e in cc) over.due_is (wrote_at DiskFault tt wrote is).0

        called : (status ≡ Refused) ⊎ (status ≡ ReadFault) → ⊥
        called = not_uncalled status (by_wrote IsCalled tt tt wrote (λ _. by_due IsCalled (λ _. tt) (λ _ _. tt) (λ _ _. tt) (λ _ _. tt) over.due_is))

    -- what is told of a run
    pub run_begun : (store : Bool) (first : Store D) (old : List TapeEntry) → Begins view faults (digest_of case) store before first old → RanOver view faults telling case policy old first end due closed → TellsIt store
    run_begun true (On tape) old begins over = over_tape tape old begins over
    run_begun true (Off disk) old begins over = elim begins [ ]
    run_begun false first old begins over =
        let it = subst (λ s. RanOver view faults telling case policy [] s end due closed) begins.0 (subst (λ l. RanOver view faults telling case policy l first end due closed) begins.1 over) in
        let stands = off_stands view faults before closed.history.entries it.last it.whole.stored in let same = it.same ∙ stands.0 in
        (tells_run view faults law telling false before end bytes case policy [] (Off before) had took status due closed spelled (omega arith) refl it wrote same (λ off. stands.1) (λ taped. elim taped [ ]), same)

-- ---- a disk that was not opened as a tape

count_of : (why : TapeCause) (old new : ℕ) → CountsFaultOf why old new → CountsWhere (why ≡ cause.DiskFault) old new
count_of cause.NotTape old new same = uncounted (λ e. let wrong : cause.NotTape ≡ cause.DiskFault = e in cc) same
count_of (cause.OtherGraph found) old new same = uncounted (λ e. let wrong : cause.OtherGraph found ≡ cause.DiskFault = e in cc) same
count_of (cause.BadTape at) old new same = uncounted (λ e. let wrong : cause.BadTape at ≡ cause.DiskFault = e in cc) same
count_of cause.Long old new same = uncounted (λ e. let wrong : cause.Long ≡ cause.DiskFault = e in cc) same
count_of cause.DiskFault old new rose = counted refl rose.0 rose.1
count_of cause.NoMemory old new same = uncounted (λ e. let wrong : cause.NoMemory ≡ cause.DiskFault = e in cc) same

pub unopened_unrun : {D : Type 0} (view : D → DiskView) (faults : D → ℕ) (case : Spelled) (before end : D) (why : TapeCause) (store : Bool) → store ≡ true
    → NotOpened (view before) (view end) (digest_of case) why → CountsFaultOf why (faults before) (faults end) → IsUnrun view faults store case before end why
unopened_unrun view faults case before end why store on refused counts = record {
  unstored = λ off. absurd cc;
  shows = λ shown. let it = refused.shown shown in record { content = refused.before; was = refused.was; stays = (it.0, it.2); some = it.1; stands = by_bytes shown refused.stands };
  counts = count_of why (faults before) (faults end) counts;
  still = still_refused view before end (digest_of case) why refused;
  steady = refused.steady;
  making = making_refused view before end (digest_of case) why refused;
  content = λ bytes _ told. content_refused view before end (digest_of case) why refused (Some bytes) told;
}

-- ---- a case of which no call was made

module _ {D : Type 0} (view : D → DiskView) (faults : D → ℕ) (store : Bool) (case : Spelled) (before end : D) (why : TapeCause) (unrun : IsUnrun view faults store case before end why)
    (had took : Side) (status : Status) (bytes : List ℕ) (spelled : case_accepted bytes ≡ Ok case) where
  -- a disk that failed is told, and no other
  lost_by : EndsFor why status had took → status ≡ DiskFault → why ≡ cause.DiskFault
  lost_by (tape_lost lost is nothing) e = lost
  lost_by (tape_starved other starved) e = absurd (let wrong : NoMemory ≡ DiskFault = sym starved.0 ∙ e in cc)
  lost_by (tape_told shown wrote) e = absurd (let wrong : DiskFault ≡ TapeRefused = (wrote_at DiskFault tt wrote e).0 in cc)

  told_by : EndsFor why status had took → why ≡ cause.DiskFault → status ≡ DiskFault
  told_by (tape_lost lost is nothing) e = is
  told_by (tape_starved other starved) e = absurd (other e)
  told_by (tape_told shown wrote) e = elim (subst IsShown e shown) [ ]

  called_by : EndsFor why status had took → IsCalled status
  called_by (tape_lost lost is nothing) = subst IsCalled (sym is) tt
  called_by (tape_starved other starved) = subst IsCalled (sym starved.0) tt
  called_by (tape_told shown wrote) = by_wrote IsCalled tt tt wrote (λ _. tt)

  stored_by : (s : Bool) → store ≡ s → why ≢ cause.NoMemory → store ≡ true
  stored_by true is other = is
  stored_by false is other = absurd (other (unrun.unstored is).0)

  pub unrun_leaves : EndsFor why status had took → LeavesDisk store view faults (Some bytes) before end status None
  unrun_leaves ends = by_store store refl
    where
      by_store : (s : Bool) → store ≡ s → LeavesDisk s view faults (Some bytes) before end status None
      by_store false is = (unrun.unstored is).1
      by_store true is = record {
        never_falls = unrun.counts.0;
        counted = λ e. unrun.counts.1 (lost_by ends e);
        told = λ _ other. unrun.counts.2 (λ lost. other (told_by ends lost));
        still = λ _. unrun.still;
        settled = λ _. record { steady = λ other. unrun.steady (λ lost. other (told_by ends lost)); empty = unrun.making };
        content = λ _ told. unrun.content bytes spelled told;
        uncalled = λ is. absurd (not_uncalled status (called_by ends) is);
      }

  pub unrun_answers : (OfCase : Way → Bool → List ℕ → Type 0) (way : Way) → (TellsNone store (view before) (view end) bytes had took status → OfCase way store bytes) → EndsFor why status had took
      → AnswersBytes OfCase (Execute way store) bytes had took status None None
  unrun_answers OfCase way told (tape_lost lost is nothing) =
      bytes_told (refl, told (has_failed (stored_by store refl (λ e. let wrong : cause.DiskFault ≡ cause.NoMemory = sym lost ∙ e in cc)) is nothing))
  unrun_answers OfCase way told (tape_starved other starved) = bytes_starved (refl, refl) starved
  unrun_answers OfCase way told (tape_told shown wrote) =
      bytes_told (refl, told (is_tape_refused (stored_by store refl (λ e. elim (subst IsShown e shown) [ ])) (record { case = case; spelled = spelled; cause = why; shows = unrun.shows shown; line = wrote })))
