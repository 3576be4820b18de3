-- What the run of a case is told by.
use Rattle.std.proofs.Common.{◌≡◌, ◌⊎◌, ℕ, ◌<◌, ◌≤◌, arith, Bool, true, false, List, length, Option, Some, None, Result, Ok, Err, inl, inr, refl, sym, ap, subst, ◌∙◌}
use Rattle.std.specs.Prelude.{◌↔◌, ⊤, slice_get}
use Rattle.std.specs.List.{All}
use Rattle.std.proofs.lemmas.Option.{slice_get_within, get_or_from_slice_get}
use Rattle.std.proofs.lemmas.List.Elements.{All-weaker}
use Rattle.dcr_base.specs.Disk.{DiskView}
use Rattle.dcr_base.specs.Side.{Side}
use Rattle.dcr_graph.specs.Projection.{HasRoom}
use Rattle.dcr_graph.specs.Cause.{waits}
use Rattle.dcr_graph.specs.Rules.{Rules}
use Rattle.dcr_graph.specs.declared.marking.Marking.{Marking}
use Rattle.dcr_base.specs.declared.status.Status.{Status}
use Rattle.dcr_base.specs.declared.status.Status.TheVariants.{Done, DiskFault, Full, DoorFault}
use Rattle.dcr_journal.specs.Run.{after, marks_at, told, HasNoFault, IsLegal}
use Rattle.dcr_journal.specs.declared.call.Call.{Call}
use Rattle.dcr_journal.specs.declared.call.Entry.{Entry}
use Rattle.dcr_journal.specs.declared.call.Outcome.TheVariants as outcome
use Rattle.dcr_journal.specs.declared.closed.Closed.{Closed}
use Rattle.dcr_laws.proofs.ToldLemmas.{a_run_is_done_lem}
use Rattle.dcr_tape.specs.declared.tape.Store.{Store}
use Rattle.dcr_tape.specs.declared.entry.TapeEntry.{TapeEntry}
use Rattle.dcr_tape.specs.Opening.{most_records}
use Rattle.dcr_cell.specs.Stored.{IsTaped}
use Rattle.dcr_work.specs.Order.{IsInWorkerOrder}
use Rattle.dcr_engine.specs.Laws.{OrderedIsTold}
use Rattle.dcr_replay.specs.Laws.{IsReport}
use Rattle.dcr_report.specs.Report.{report_text}
use Rattle.dcr_roles.specs.Stages.{◌>>=◌}
use Rattle.dcr_json.specs.Case.{file_in}
use Rattle.dcr_json.specs.Built.{IsCase}
use Rattle.dcr_json.specs.Written.{Spelled}
use Rattle.dcr_json.specs.declared.case.Case.{Case}
use Rattle.dcr_format.specs.declared.stop.CaseStop.{CaseStop}
use Rattle.dcr_json.proofs.RefusalLemmas.{file_long}
use Rattle.dcr_format.specs.declared.stop.CaseStop.TheVariants as stop
use Rattle.serde_json.specs.Data.{Data}
use Rattle.dcr_policy.specs.Roles.{Roles}
use Rattle.dcr_roles.specs.Accepted.{SpelledBoth, accepted_in, case_accepted, of_case}
use Rattle.dcr_roles.specs.Laws.{AcceptedAreTheFormats, AcceptsCase, SpellsBoth}
use Rattle.dcr_roles.specs.declared.accepted.AcceptStop.{AcceptStop}
use Rattle.dcr_roles.specs.declared.accepted.AcceptStop.TheVariants as accept
use Rattle.dcr_app.specs.Answers.{IsDoneThroughout, IsToldByOne, TellsCase, TellsRun}
use Rattle.dcr_app.specs.Headline.{BeginsWith, Headline, digest_of, rules_in}
use Rattle.dcr_app.specs.Outside.{WereLeft, Wrote}
use Rattle.dcr_app.specs.Stored.{IsRunOn, KeepsRun, RanOver}
use Rattle.dcr_app.specs.Telling.{IsDueBy, Telling, by_workers}
use Rattle.dcr_app.proofs.DueLemmas.{by_due}
use Rattle.dcr_app.proofs.OutsideLemmas.{wrote_at}

-- ---- what is accepted

-- the case that is accepted is that of both
pub case_of_both : (bytes : List ℕ) (both : SpelledBoth) → accepted_in bytes ≡ Ok both → case_accepted bytes ≡ Ok both.case
case_of_both bytes both is = ap (λ r. r >>= λ it. Ok it.case) is

pub case_of_stop : (bytes : List ℕ) (why : AcceptStop) → accepted_in bytes ≡ Err why → case_accepted bytes ≡ Err why
case_of_stop bytes why is = ap (λ r. r >>= λ it. Ok it.case) is

abbrev pub CasesAreAccepted : Type 0
CasesAreAccepted = (bytes : List ℕ) (case : Spelled) → (case_accepted bytes ≡ Ok case) ↔ AcceptsCase bytes case

pub cases_are_accepted : AcceptedAreTheFormats → CasesAreAccepted
cases_are_accepted law bytes case = (λ is. accepted_at (accepted_in bytes) refl is, λ it. case_of_both bytes (record { case = case; policy = it.policy }) ((law bytes (record { case = case; policy = it.policy })).1 it.spells))
  where
    accepted_at : (r : Result SpelledBoth AcceptStop) → accepted_in bytes ≡ r → (r >>= λ it. Ok it.case) ≡ Ok case → AcceptsCase bytes case
    accepted_at (Ok both) is same =
        let here : both.case ≡ case = cc in
        record { policy = both.policy; spells = (law bytes (record { case = case; policy = both.policy })).0 (is ∙ ap (λ (c : Spelled). Ok (record { case = c; policy = both.policy })) here) }
    accepted_at (Err why) is same = absurd cc

-- ---- a run of the case

-- with Done nothing failed
pub no_fault_done : {fine full failed : Type 0} {due : Status} {text : List ℕ} {status : Status} {had took : Side} → IsDueBy fine full failed due → Wrote due text status had took
    → status ≡ Done → fine × (full → ⊥)
no_fault_done {fine} {full} due_is wrote done =
    by_due (λ s. Done ≡ s → fine × (full → ⊥)) (λ some e. absurd (let wrong : Done ≡ DiskFault = e in cc)) (λ none all e. absurd (let wrong : Done ≡ Full = e in cc))
    (λ none fell e. absurd (let wrong : Done ≡ DoorFault = e in cc)) (λ none room e. (none, room)) due_is (wrote_at Done tt wrote done).0

-- the headline of the run of a case that these bytes spell
pub tells_run : {D : Type 0} (view : D → DiskView) (faults : D → ℕ) → AcceptedAreTheFormats → (telling : Telling D) (store : Bool) (before after_it : D) (bytes : List ℕ) (case : Spelled) (policy : Roles)
    (old : List TapeEntry) (first : Store D) (had took : Side) (status : Status) (due : Status) (closed : Closed) → accepted_in bytes ≡ Ok (record { case = case; policy = policy }) → length old ≤ most_records
    → BeginsWith store (digest_of case) (view before) old → RanOver view faults telling case policy old first after_it due closed
    → Wrote due (report_text case.nested case.cover closed.opening closed.history.entries) status had took
    → KeepsRun store view faults (digest_of case) old closed.history.entries before after_it → (store ≡ false → HasNoFault closed.history.entries) → (IsTaped (Some first) → store ≡ true)
    → TellsRun view faults telling store before after_it (Some bytes) ⊤ had took status closed
tells_run view faults law telling store before after_it bytes case policy old first had took status due closed spelled few begins over wrote keeps unstored taped =
    let G = rules_in case in let C = case.cover.owned in let J = closed.history.entries in
    let whole = over.whole in
    let Legal : Marking → Type 0 = λ M. IsLegal G C M J in record {
      case = case;
      policy = policy;
      old = old;
      few = few;
      possible = over.possible;
      first = first;
      taped = taped;
      headline = record {
        input = (bytes, refl, (law bytes (record { case = case; policy = policy })).0 spelled, tt);
        history = (begins, whole.opening, subst Legal (sym whole.opening) whole.legal, no_fault);
        sessions = over.sessions;
        order = over.order;
        sites = (whole.marks ∙ ap (λ M. marks_at G C (after G M J)) (sym whole.opening), whole.waits ∙ ap (λ M. waits G.atoms (after G M J)) (sym whole.opening));
        report = (due, over.due_is, wrote);
      };
      legal = over.legal;
      disk = keeps;
    }
  where
    no_fault : (status ≡ Done) ⊎ (store ≡ false) → HasNoFault closed.history.entries
    no_fault (inl done) = (no_fault_done over.due_is wrote done).0
    no_fault (inr off) = unstored off

-- the report of a run is the report of a legal history
pub report_of_run : (case : Case) (closed : Closed) (most : ℕ) → IsCase case → IsRunOn case.graph case.cover.owned closed → most ≤ 1024
    → All (λ (entry : Entry). entry.session < most) closed.history.entries → length closed.history.entries ≤ 200000
    → IsReport (report_text case.nested case.cover closed.opening closed.history.entries) (length closed.history.entries)
report_of_run case closed most is run few sessions entries =
    record {
      setting = record {
        nest = case.nested;
        cover = case.cover;
        opening = closed.opening;
        accepted_graph = is.accepted_graph;
        accepted_cover = is.accepted_cover;
        room = subst (λ (G : Rules). HasRoom G.atoms closed.opening) is.flat.related run.room;
      };
      history = closed.history.entries;
      run = record {
        legal = subst (λ (G : Rules). IsLegal G case.cover.owned closed.opening closed.history.entries) is.flat.related run.legal;
        most = entries;
        sessions = All-weaker (λ (entry : Entry). entry.session < most) (λ (entry : Entry). entry.session < 1024)
            (λ entry below. omega (arith, below, few)) closed.history.entries sessions;
      };
      text = refl;
      counted = refl;
    }

-- ---- a file that is too long

stops_both : {B : Type 0} (o : Result Data CaseStop) (f : Data → Result B AcceptStop) (why : CaseStop) → o ≡ Err why → (of_case o >>= f) ≡ Err (accept.Case why)
stops_both o f why is = ap (λ r. of_case r >>= f) is

pub too_long : (bytes : List ℕ) → 16777216 < length bytes → case_accepted bytes ≡ Err (accept.Case stop.TooLong)
unfolding accepted_in
too_long bytes more = case_of_stop bytes (accept.Case stop.TooLong) (stops_both (file_in bytes) _ stop.TooLong (file_long bytes more))

-- ---- the case that is told

module _ {D : Type 0} (view : D → DiskView) (faults : D → ℕ) (telling : Telling D) (store : Bool) (before end : D) where
  -- from the bytes to what the input had left
  pub tells_left : (left : Option (List ℕ)) (has_ended : Type 0) (bytes : List ℕ) (had took : Side) (status : Status) (closed : Closed) → WereLeft left bytes → has_ended
      → TellsRun view faults telling store before end (Some bytes) ⊤ had took status closed → TellsRun view faults telling store before end left has_ended had took status closed
  tells_left left has_ended bytes had took status closed read ended it = record {
    case = it.case;
    policy = it.policy;
    old = it.old;
    few = it.few;
    possible = it.possible;
    first = it.first;
    taped = it.taped;
    headline = record {
      input = (bytes, read, subst (λ b. SpellsBoth b (record { case = it.case; policy = it.policy })) (sym it.headline.input.1) it.headline.input.2, ended);
      history = it.headline.history;
      sessions = it.headline.sessions;
      order = it.headline.order;
      sites = it.headline.sites;
      report = it.headline.report;
    };
    legal = it.legal;
    disk = it.disk;
  }

  -- the case is the one that the bytes are read as
  pub read_as : AcceptedAreTheFormats → (bytes : List ℕ) (has_ended : Type 0) (had took : Side) (status : Status) (closed : Closed)
      → (it : TellsRun view faults telling store before end (Some bytes) has_ended had took status closed) → case_accepted bytes ≡ Ok it.case
  read_as law bytes has_ended had took status closed it =
      ap case_accepted it.headline.input.1
      ∙ case_of_both it.headline.input.0 (record { case = it.case; policy = it.policy }) ((law it.headline.input.0 (record { case = it.case; policy = it.policy })).1 it.headline.input.2)

-- ---- one case

pub one_ok : {A E : Type 0} (r : Result A E) (x y : A) → r ≡ Ok x → r ≡ Ok y → x ≡ y
one_ok {A} {E} r x y is also = let same : ◌≡◌ {A = Result A E} (Ok x) (Ok y) = sym is ∙ also in cc

-- ---- the told run

-- the history of a run that is told in the order of one worker, where nothing failed
told_headline : {D : Type 0} → OrderedIsTold → (workers : ℕ) (store : Bool) (disk : DiskView) (first : Store D) (case : Spelled) (policy : Roles) (old : List TapeEntry) (left : Option (List ℕ)) (has_ended : Type 0)
    (had took : Side) (status : Status) (closed : Closed) → Headline (by_workers workers) store disk first case policy old left has_ended had took status closed
    → IsInWorkerOrder 1 closed.history.entries → HasNoFault closed.history.entries
    → closed.history.entries ≡ told (rules_in case) case.cover.owned closed.opening case.sessions
told_headline ordered workers store disk first case policy old left has_ended had took status closed it in_order none =
    ordered (rules_in case) case.cover.owned closed.opening case.sessions closed.history.entries it.history.2 none in_order (it.sessions.all none) it.sessions.no_other

pub entry_at : (P : Entry → Type 0) (J : List Entry) (b : ℕ) (y : Entry) → All P J → slice_get J b ≡ Some y → P y
entry_at P J b y all here = subst P (get_or_from_slice_get J b y y here) (all b y (slice_get_within J b y here))

-- where there is one session, there is one order
one_session : (J : List Entry) → All (λ (entry : Entry). entry.session < 1) J → IsInWorkerOrder 1 J
one_session J only a b x y here there less same =
    let none : y.session < 1 = entry_at (λ (entry : Entry). entry.session < 1) J b y only there in absurd (omega (arith, none, less))

module _ {D : Type 0} (view : D → DiskView) (faults : D → ℕ) (law : AcceptedAreTheFormats) (ordered : OrderedIsTold) (workers : ℕ) (store : Bool) (before end : D)
    (had took : Side) (status : Status) where
  same_case : (bytes : List ℕ) (case : Spelled) (closed : Closed) → case_accepted bytes ≡ Ok case
      → (it : TellsRun view faults (by_workers workers) store before end (Some bytes) ⊤ had took status closed) → it.case ≡ case
  same_case bytes case closed is it = one_ok (case_accepted bytes) it.case case (read_as view faults (by_workers workers) store before end law bytes ⊤ had took status closed it) is

  pub told_by_one : (bytes : List ℕ) (closed_run : Option Closed) → TellsCase view faults (by_workers workers) store before end bytes had took status closed_run
      → IsToldByOne workers (Some bytes) closed_run
  told_by_one bytes None it = λ case is. tt
  told_by_one bytes (Some closed) it = λ case is one none.
      let J = closed.history.entries in
      told_headline ordered workers store (view before) it.first it.case it.policy it.old (Some bytes) ⊤ had took status closed it.headline
      (subst (λ w. IsInWorkerOrder w J) one it.headline.order) none
      ∙ ap (λ (c : Spelled). told (rules_in c) c.cover.owned closed.opening c.sessions) (same_case bytes case closed is it)

  pub done_throughout : (bytes : List ℕ) (closed_run : Option Closed) → TellsCase view faults (by_workers workers) store before end bytes had took status closed_run
      → IsDoneThroughout (Some bytes) closed_run
  done_throughout bytes None it = λ case events executions is one spell. tt
  done_throughout bytes (Some closed) it = λ case events executions is one spell run none.
      let J = closed.history.entries in let M = closed.opening in
      let same = same_case bytes case closed is it in
      let AllDone : List Entry → Type 0 = λ K. All (λ (entry : Entry). entry.outcome ≡ outcome.Done) K in
      let Below : ℕ → Type 0 = λ n. All (λ (entry : Entry). entry.session < n) J in
      let only : length it.case.sessions ≡ 1 = ap (λ (c : Spelled). length c.sessions) same ∙ ap (λ (s : List (List Call)). length s) one in
      let history = told_headline ordered workers store (view before) it.first it.case it.policy it.old (Some bytes) ⊤ had took status closed it.headline
      (one_session J (subst Below only it.headline.sessions.no_other)) none
      ∙ ap (λ (c : Spelled). told (rules_in c) c.cover.owned M c.sessions) same ∙ ap (told (rules_in case) case.cover.owned M) one in
      subst AllDone (sym history) (a_run_is_done_lem (rules_in case) case.cover.owned M events executions run spell)
