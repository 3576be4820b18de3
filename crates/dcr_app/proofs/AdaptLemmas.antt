-- What `adapt` answers.
use Rattle.std.proofs.Common.{◌≡◌, ◌≢◌, ℕ, zero, suc, ◌+◌, ◌-◌, ◌<◌, ◌≤◌, arith, List, [], ◌∷◌, ◌++◌, length, map, take, Option, Some, None, Result, Ok, Err, inr, refl, sym, ap, subst, ◌∙◌}
use Rattle.std.specs.Prelude.{⊤}
use Rattle.std.specs.Io.KnownBytes.{Appends}
use Rattle.std.specs.List.{All, slice_get}
use Rattle.std.proofs.lemmas.List.{append-nil, length-append, take_all, take-append-le}
use Rattle.std.proofs.lemmas.List.Elements.{All-cons, All-nil}
use Rattle.dcr_base.specs.Count.{Rose}
use Rattle.dcr_base.specs.Disk.{DiskView}
use Rattle.dcr_base.specs.Side.{Adds, Side, Stopped}
use Rattle.dcr_base.specs.declared.status.Status.{Status}
use Rattle.dcr_base.specs.declared.status.Status.TheVariants.{Done, WriteFault, NoMemory}
use Rattle.dcr_graph.specs.Cause.{waits}
use Rattle.dcr_graph.specs.GraphValue.{Flat, rules_of}
use Rattle.dcr_graph.specs.Rules.{Rules}
use Rattle.dcr_graph.specs.declared.marking.Marking.{Marking}
use Rattle.dcr_nest.specs.FlatRelation.{IsFlattening}
use Rattle.dcr_proj.specs.CoverValue.{Owners}
use Rattle.dcr_journal.specs.Run.{HasNoFault, after, marks_at, told}
use Rattle.dcr_journal.specs.declared.call.Call.{Call}
use Rattle.dcr_journal.specs.declared.call.Entry.{Entry}
use Rattle.dcr_journal.specs.declared.closed.Closed.{Closed}
use Rattle.dcr_tape.specs.declared.tape.Store.{Store}
use Rattle.dcr_tape.specs.declared.tape.Store.TheVariants.{Off}
use Rattle.dcr_link.proofs.PieceLemmas.{added_then}
use Rattle.dcr_engine.specs.Laws.{OrderedIsTold}
use Rattle.dcr_engine.specs.Ran.{HasRun, cluster_of}
use Rattle.dcr_json.specs.Built.{IsCase, case_of}
use Rattle.dcr_json.specs.Written.{Spelled}
use Rattle.dcr_json.specs.declared.case.Case.{Case}
use Rattle.dcr_report.specs.Report.{report_text}
use Rattle.dcr_replay.specs.Laws.{IsReport}
use Rattle.dcr_adapt.specs.Carried.{carried}
use Rattle.dcr_adapt.specs.Stages.{stages_in}
use Rattle.dcr_adapt.specs.declared.stop.StageStop.{StageStop}
use Rattle.dcr_app.specs.Adapted.{BeginsAsWritten, BeginsAt, EndsStages, GoesOn, IsAnsweredStages, IsRunOfStage, IsToldOf, RanAlone, RunsStages, Stage, TellsStages, case_of_stage, ending_of, history_of, report_of, reports_of, stages_from}
use Rattle.dcr_app.specs.Answers.{AnswersPlain, bytes_told}
use Rattle.dcr_app.specs.Headline.{rules_in}
use Rattle.dcr_app.specs.Outside.{Wrote, wrote_all, write_failed, write_starved}
use Rattle.dcr_app.specs.Telling.{atoms_in}
use Rattle.dcr_app.specs.declared.command.Command.TheVariants.{Read}
use Rattle.dcr_app.specs.declared.command.Reading.TheVariants.{Adapt}
use Rattle.dcr_app.proofs.LinksLemmas.{some_bytes}
use Rattle.dcr_app.proofs.OutsideLemmas.{IsEnded, appends_nothing, ended_with, wrote_at}
use Rattle.dcr_app.proofs.OverLemmas.{off_stands, run_on}
use Rattle.dcr_app.proofs.RunLemmas.{report_of_run}
use Rattle.dcr_app.proofs.SaysLemmas.{SaysAt}

-- ---- the stages from a case on

-- they are its and those behind it
pub cases_from : (case : Spelled) (M : Marking) (rest : List Spelled) → map case_of_stage (stages_from case M rest) ≡ case ∷ rest
cases_from case M [] = refl
cases_from case M (next ∷ rest) = ap (λ (l : List Spelled). case ∷ l) (cases_from next _ rest)

pub begins_from : (case : Spelled) (M : Marking) (rest : List Spelled) → BeginsAt M (stages_from case M rest)
begins_from case M [] = refl
begins_from case M (next ∷ rest) = refl

-- of the case's own opening they begin as its file says
pub begins_as_written : (case : Spelled) (rest : List Spelled) → BeginsAsWritten (stages_from case case.opening rest)
begins_as_written case [] = refl
begins_as_written case (next ∷ rest) = refl

first_of : (case : Spelled) (M : Marking) (rest : List Spelled) (t : Stage) → slice_get (stages_from case M rest) 0 ≡ Some t → t ≡ record { case = case; opening = M }
first_of case M [] t is = let same : Some (record { case = case; opening = M }) ≡ Some t = is in cc
first_of case M (next ∷ rest) t is = let same : Some (record { case = case; opening = M }) ≡ Some t = is in cc

pub goes_on_from : (case : Spelled) (M : Marking) (rest : List Spelled) → GoesOn (stages_from case M rest)
goes_on_from case M [] zero s t is next = absurd (let none : None ≡ Some t = next in cc)
goes_on_from case M [] (suc i) s t is next = absurd (let none : None ≡ Some s = is in cc)
goes_on_from case M (next ∷ rest) zero s t is there =
    let here : Stage = record { case = case; opening = M } in
    let N = carried (atoms_in case) (ending_of here) (atoms_in next) next.opening in
    let first : s ≡ here = (let same : Some here ≡ Some s = is in cc) in
    let second : t ≡ record { case = next; opening = N } = first_of next N rest t there in
    ap (λ (x : Stage). x.opening) second
    ∙ (ap (λ (x : Stage). carried (atoms_in x.case) (ending_of x) (atoms_in next) next.opening) (sym first)
    ∙ ap (λ (x : Stage). carried (atoms_in s.case) (ending_of s) (atoms_in x.case) x.case.opening) (sym second))
goes_on_from case M (next ∷ rest) (suc i) s t is there =
    let on : suc i + 1 ≡ suc (i + 1) = omega arith in
    goes_on_from next (carried (atoms_in case) (ending_of (record { case = case; opening = M })) (atoms_in next) next.opening) rest i s t is
    (subst (λ k. slice_get (stages_from case M (next ∷ rest)) k ≡ Some t) on there)

-- ---- texts

take_past : (xs ys : List ℕ) (n : ℕ) → take (length xs + n) (xs ++ ys) ≡ xs ++ take n ys
take_past [] ys n = let none : List ℕ = [] in let same : length none + n ≡ n = omega arith in ap (λ k. take k ys) same
take_past (x ∷ xs) ys n =
    let same : length (x ∷ xs) + n ≡ suc (length xs + n) = omega arith in
    ap (λ k. take k (x ∷ (xs ++ ys))) same ∙ ap (λ (l : List ℕ). x ∷ l) (take_past xs ys n)

stopped_behind : (x y : List ℕ) (had mid took : Side) → Appends had.bytes mid.bytes x → Stopped y mid took → Stopped (x ++ y) had took
stopped_behind x y had mid took first it = record {
  count = length x + it.count;
  fewer = let all = length-append x y in let few = it.fewer in omega arith;
  wrote = subst (λ (l : List ℕ). Appends had.bytes took.bytes l) (sym (take_past x y it.count)) (added_then had.bytes mid.bytes took.bytes x (take it.count y) first it.wrote);
}

adds_behind : (x y : List ℕ) (had mid took : Side) → Adds x had mid → Adds y mid took → Adds (x ++ y) had took
adds_behind x y had mid took first then = (added_then had.bytes mid.bytes took.bytes x y first.0 then.0, then.1 ∙ first.1)

-- a text was written, and another was due behind it
wrote_behind : (x y : List ℕ) (status : Status) (had mid took : Side) → Adds x had mid → Wrote Done y status mid took → Wrote Done (x ++ y) status had took
wrote_behind x y status had mid took first (wrote_all is then) = wrote_all is (adds_behind x y had mid took first then)
wrote_behind x y status had mid took first (write_failed is stopped fails) =
    write_failed is (stopped_behind x y had mid took first.0 stopped) ((let same = first.1 in let more = fails.0 in omega arith), subst (λ n. Rose n took.faults) first.1 fails.1)
wrote_behind x y status had mid took first (write_starved is stopped same) = write_starved is (stopped_behind x y had mid took first.0 stopped) (same ∙ first.1)

stopped_before : (x y : List ℕ) (had took : Side) → Stopped x had took → Stopped (x ++ y) had took
stopped_before x y had took it = record {
  count = it.count;
  fewer = let all = length-append x y in let few = it.fewer in omega arith;
  wrote = subst (λ (l : List ℕ). Appends had.bytes took.bytes l) (sym (take-append-le it.count x y (let few = it.fewer in omega arith))) it.wrote;
}

-- ---- a stage that was run

-- what is told of a run by one worker without a tape
pub ran_alone : {D : Type 0} (view : D → DiskView) (faults : D → ℕ) → OrderedIsTold → (graph : Flat) (cover : Owners) (M : Marking) (sessions : List (List Call)) (before : D) (closed : Closed)
    (last : Store D) → HasRun view faults (cluster_of graph cover M []) (Off before) 1 sessions closed last → RanAlone graph cover.owned M sessions closed
ran_alone view faults ordered graph cover M sessions before closed last ran =
    let J = closed.history.entries in
    let none : HasNoFault J = (off_stands view faults before J last ran.whole.stored).1 in record {
      opening = ran.whole.opening;
      history = ordered (rules_of graph) cover.owned M sessions J ran.whole.legal none ran.in_order (ran.calls.all none) ran.calls.no_other;
      run = run_on view faults graph cover M [] (Off before) closed last ran.whole;
      few = ran.whole.most_entries;
      no_other = ran.calls.no_other;
    }

abbrev stage_of : Spelled → Marking → Stage
stage_of case M = record { case = case; opening = M }

pub run_of_stage : (graph : Flat) (case : Spelled) (M : Marking) (closed : Closed) → IsFlattening case.nested graph → RanAlone graph case.cover.owned M case.sessions closed
    → IsRunOfStage (stage_of case M) closed
run_of_stage graph case M closed flat ran =
    let C = case.cover.owned in let J = closed.history.entries in
    let told_it : J ≡ told (rules_in case) C M case.sessions = ran.history ∙ ap (λ (G : Rules). told G C M case.sessions) flat.related in
    let end : after (rules_of graph) closed.opening J ≡ ending_of (stage_of case M) =
    ap (λ (G : Rules). after G closed.opening J) flat.related ∙ (ap (λ (N : Marking). after (rules_in case) N J) ran.opening ∙ ap (λ (K : List Entry). after (rules_in case) M K) told_it) in record {
      opening = ran.opening;
      history = told_it;
      marks = ran.run.marks ∙ (ap (λ (N : Marking). marks_at (rules_of graph) C N) end ∙ ap (λ (G : Rules). marks_at G C (ending_of (stage_of case M))) flat.related);
      waits = ran.run.waits ∙ (ap (λ (N : Marking). waits (length graph.names) N) end ∙ ap (λ (G : Rules). waits G.atoms (ending_of (stage_of case M))) flat.related);
    }

-- the report of what was run is that of the stage
pub report_is : (s : Stage) (closed : Closed) → IsRunOfStage s closed → report_text s.case.nested s.case.cover closed.opening closed.history.entries ≡ report_of s
report_is s closed ran =
    ap (λ (M : Marking). report_text s.case.nested s.case.cover M closed.history.entries) ran.opening
    ∙ ap (λ (J : List Entry). report_text s.case.nested s.case.cover s.opening J) ran.history

-- and of a legal history
pub legal_stage : (case : Case) (M : Marking) (closed : Closed) → IsCase case → RanAlone case.graph case.cover.owned M case.sessions closed
    → IsReport (report_of (stage_of (case_of case) M)) (length (history_of (stage_of (case_of case) M)))
legal_stage case M closed is ran =
    let s = stage_of (case_of case) M in let J = closed.history.entries in
    let it = run_of_stage case.graph (case_of case) M closed is.flat ran in
    let report = report_of_run case closed (length case.sessions) is ran.run is.most_sessions ran.no_other ran.few in
    subst (λ (l : List ℕ). IsReport l (length (history_of s))) (report_is s closed it)
    (subst (λ (K : List Entry). IsReport (report_text case.nested case.cover closed.opening J) (length K)) it.history report)

-- the reports of stages have a byte
some_reports : (case : Spelled) (M : Marking) (rest : List Spelled) → 0 < length (reports_of (stages_from case M rest))
some_reports case M [] =
    let s = stage_of case M in let some = some_bytes case.nested case.cover M (history_of s) in let all = length-append (report_of s) [] in omega (arith, some, all)
some_reports case M (next ∷ rest) =
    let s = stage_of case M in let some = some_bytes case.nested case.cover M (history_of s) in
    let all = length-append (report_of s) (reports_of (stages_from next (carried (atoms_in case) (ending_of s) (atoms_in next) next.opening) rest)) in omega (arith, some, all)

-- ---- how many of the stages were run

no_legal : All (λ (s : Stage). IsReport (report_of s) (length (history_of s))) []
no_legal = All-nil (λ (s : Stage). IsReport (report_of s) (length (history_of s)))

-- none
pub runs_none : (case : Spelled) (M : Marking) (rest : List Spelled) (before : Option Closed) (had : Side) → RunsStages (stages_from case M rest) before had had NoMemory before
runs_none case M rest before had = record {
  count = 0;
  within = omega arith;
  all = λ done. absurd (let wrong : NoMemory ≡ Done = done in cc);
  told = refl;
  wrote = write_starved refl (record { count = 0; fewer = some_reports case M rest; wrote = appends_nothing had.bytes }) refl;
  reach = 0;
  far = omega arith;
  near = omega arith;
  cut = λ failed. absurd (let wrong : NoMemory ≡ WriteFault = failed in cc);
  front = appends_nothing had.bytes;
  legal = no_legal;
}

-- one, of which so much of the report was written
runs_one : (s : Stage) (rest : List Stage) (closed : Closed) (before : Option Closed) (had took : Side) (status : Status) (n : ℕ) → (status ≡ Done → 1 ≡ length (s ∷ rest)) → IsRunOfStage s closed
    → IsReport (report_of s) (length (history_of s)) → Wrote Done (reports_of (s ∷ rest)) status had took → n ≤ length (report_of s) → (status ≡ WriteFault → n < length (report_of s)) → Appends had.bytes took.bytes (take n (report_of s))
    → RunsStages (s ∷ rest) before had took status (Some closed)
runs_one s rest closed before had took status n all ran legal wrote within cut front =
    let same : report_of s ++ [] ≡ report_of s = append-nil (report_of s) in record {
      count = 1;
      within = omega arith;
      all = all;
      told = (s, closed, refl, refl, ran);
      wrote = wrote;
      reach = n;
      far = omega arith;
      near = subst (λ (l : List ℕ). n ≤ length l) (sym same) within;
      cut = λ failed. subst (λ (l : List ℕ). n < length l) (sym same) (cut failed);
      front = subst (λ (l : List ℕ). Appends had.bytes took.bytes (take n l)) (sym same) front;
      legal = All-cons (λ (x : Stage). IsReport (report_of x) (length (history_of x))) s [] legal no_legal;
    }

-- one, whose report was not written to its end
pub runs_stopped : (s : Stage) (rest : List Stage) (closed : Closed) (before : Option Closed) (had took : Side) (status : Status) → IsRunOfStage s closed
    → IsReport (report_of s) (length (history_of s)) → Wrote Done (report_of s) status had took → status ≢ Done → RunsStages (s ∷ rest) before had took status (Some closed)
runs_stopped s rest closed before had took status ran legal (wrote_all is adds) other = absurd (other is)
runs_stopped s rest closed before had took status ran legal (write_failed is it fails) other =
    runs_one s rest closed before had took status it.count (λ done. absurd (other done)) ran legal (write_failed is (stopped_before (report_of s) (reports_of rest) had took it) fails) (let few = it.fewer in omega arith) (λ failed. it.fewer) it.wrote
runs_stopped s rest closed before had took status ran legal (write_starved is it same) other =
    runs_one s rest closed before had took status it.count (λ done. absurd (other done)) ran legal (write_starved is (stopped_before (report_of s) (reports_of rest) had took it) same) (let few = it.fewer in omega arith) (λ failed. it.fewer) it.wrote

-- one, which is the last
pub runs_last : (s : Stage) (closed : Closed) (before : Option Closed) (had took : Side) → IsRunOfStage s closed → IsReport (report_of s) (length (history_of s))
    → Adds (report_of s) had took → RunsStages (s ∷ []) before had took Done (Some closed)
runs_last s closed before had took ran legal wrote =
    let same : report_of s ++ [] ≡ report_of s = append-nil (report_of s) in
    runs_one s [] closed before had took Done (length (report_of s)) (λ done. refl) ran legal (wrote_all refl (subst (λ (l : List ℕ). Adds l had took) (sym same) wrote)) (omega arith)
    (λ failed. absurd (let wrong : Done ≡ WriteFault = failed in cc))
    (subst (λ (l : List ℕ). Appends had.bytes took.bytes l) (sym (take_all (length (report_of s)) (report_of s) (omega arith))) wrote.0)

-- one, behind which memory ran out
pub runs_starved : (s : Stage) (case : Spelled) (M : Marking) (rest : List Spelled) (closed : Closed) (before : Option Closed) (had took : Side) → IsRunOfStage s closed
    → IsReport (report_of s) (length (history_of s)) → Adds (report_of s) had took → RunsStages (s ∷ stages_from case M rest) before had took NoMemory (Some closed)
runs_starved s case M rest closed before had took ran legal wrote =
    let x = report_of s in let y = reports_of (stages_from case M rest) in
    let full : take (length x) x ≡ x = take_all (length x) x (omega arith) in
    runs_one s (stages_from case M rest) closed before had took NoMemory (length x) (λ done. absurd (let wrong : NoMemory ≡ Done = done in cc)) ran legal (write_starved refl (record {
      count = length x;
      fewer = let all = length-append x y in let some = some_reports case M rest in omega arith;
      wrote = subst (λ (l : List ℕ). Appends had.bytes took.bytes l) (sym (take-append-le (length x) x y (omega arith) ∙ full)) wrote.0;
    }) wrote.1)
    (omega arith) (λ failed. absurd (let wrong : NoMemory ≡ WriteFault = failed in cc)) (subst (λ (l : List ℕ). Appends had.bytes took.bytes l) (sym full) wrote.0)

told_more : (s : Stage) (rest : List Stage) (closed : Closed) (before : Option Closed) (count : ℕ) (closed_run : Option Closed) → IsRunOfStage s closed
    → IsToldOf rest (Some closed) count closed_run → IsToldOf (s ∷ rest) before (suc count) closed_run
told_more s rest closed before zero closed_run ran it = (s, closed, refl, it, ran)
told_more s rest closed before (suc k) closed_run ran it = it

far_more : (s : Stage) (rest : List Stage) (count reach : ℕ) → length (reports_of (take (count - 1) rest)) ≤ reach → length (reports_of (take count (s ∷ rest))) ≤ length (report_of s) + reach
far_more s rest zero reach far = omega arith
far_more s rest (suc k) reach far =
    let all = length-append (report_of s) (reports_of (take k rest)) in
    let here : suc k - 1 ≡ k = omega arith in
    let fits : length (reports_of (take k rest)) ≤ reach = subst (λ n. length (reports_of (take n rest)) ≤ reach) here far in omega arith

-- one, and then so many of those behind it
pub runs_more : (s : Stage) (rest : List Stage) (closed : Closed) (before : Option Closed) (had mid took : Side) (status : Status) (closed_run : Option Closed) → IsRunOfStage s closed
    → IsReport (report_of s) (length (history_of s)) → Adds (report_of s) had mid → RunsStages rest (Some closed) mid took status closed_run → RunsStages (s ∷ rest) before had took status closed_run
runs_more s rest closed before had mid took status closed_run ran legal wrote more =
    let x = report_of s in let y = reports_of (take more.count rest) in
    let here : suc more.count - 1 ≡ more.count = omega arith in record {
      count = suc more.count;
      within = let within = more.within in omega arith;
      all = λ done. let all = more.all done in omega (arith, all);
      told = told_more s rest closed before more.count closed_run ran more.told;
      wrote = wrote_behind x (reports_of rest) status had mid took wrote more.wrote;
      reach = length x + more.reach;
      far = subst (λ n. length (reports_of (take n (s ∷ rest))) ≤ length x + more.reach) (sym here) (far_more s rest more.count more.reach more.far);
      near = let all = length-append x y in let near = more.near in omega arith;
      cut = λ failed. let all = length-append x y in let cut = more.cut failed in omega arith;
      front = subst (λ (l : List ℕ). Appends had.bytes took.bytes l) (sym (take_past x y more.reach)) (added_then had.bytes mid.bytes took.bytes x (take more.reach y) wrote.0 more.front);
      legal = All-cons (λ (t : Stage). IsReport (report_of t) (length (history_of t))) s (take more.count rest) legal more.legal;
    }

-- ---- the run of a case and those behind it

module _ (case : Case) (M : Marking) (closed : Closed) (is : IsCase case) (ran : RanAlone case.graph case.cover.owned M case.sessions closed) (before : Option Closed) where
  abbrev pub here : Stage
  here = stage_of (case_of case) M

  ran_here : IsRunOfStage here closed
  ran_here = run_of_stage case.graph (case_of case) M closed is.flat ran

  legal_here : IsReport (report_of here) (length (history_of here))
  legal_here = legal_stage case M closed is ran

  due_here : (had took : Side) (status : Status) → Wrote Done (report_text case.nested case.cover closed.opening closed.history.entries) status had took
      → Wrote Done (report_of here) status had took
  due_here had took status wrote = subst (λ (l : List ℕ). Wrote Done l status had took) (report_is here closed ran_here) wrote

  adds_here : (had took : Side) → Wrote Done (report_text case.nested case.cover closed.opening closed.history.entries) Done had took → Adds (report_of here) had took
  adds_here had took wrote = (wrote_at Done tt (due_here had took Done wrote) refl).1

  -- its report was not written to its end
  pub stops_here : (rest : List Spelled) (had took : Side) (status : Status) → Wrote Done (report_text case.nested case.cover closed.opening closed.history.entries) status had took
      → status ≢ Done → RunsStages (stages_from (case_of case) M rest) before had took status (Some closed)
  stops_here [] had took status wrote other = runs_stopped here [] closed before had took status ran_here legal_here (due_here had took status wrote) other
  stops_here (next ∷ rest) had took status wrote other =
      runs_stopped here (stages_from next _ rest) closed before had took status ran_here legal_here (due_here had took status wrote) other

  -- it is the last
  pub ends_here : (rest : List Spelled) (had took : Side) → rest ≡ [] → Wrote Done (report_text case.nested case.cover closed.opening closed.history.entries) Done had took
      → RunsStages (stages_from (case_of case) M rest) before had took Done (Some closed)
  ends_here [] had took none wrote = runs_last here closed before had took ran_here legal_here (adds_here had took wrote)
  ends_here (next ∷ rest) had took none wrote = absurd cc

  -- memory ran out behind it
  pub starves_here : (rest : List Spelled) (next : Spelled) (more : List Spelled) (had took : Side) → rest ≡ next ∷ more
      → Wrote Done (report_text case.nested case.cover closed.opening closed.history.entries) Done had took
      → RunsStages (stages_from (case_of case) M rest) before had took NoMemory (Some closed)
  starves_here rest next more had took same wrote =
      subst (λ (l : List Spelled). RunsStages (stages_from (case_of case) M l) before had took NoMemory (Some closed)) (sym same)
      (runs_starved here next (carried (atoms_in (case_of case)) (ending_of here) (atoms_in next) next.opening) more closed before had took ran_here legal_here (adds_here had took wrote))

  -- what is carried from its end
  pub carries_here : (next : Case) (N : Marking) → IsCase next
      → ((A : Marking) → closed.marks ≡ marks_at (rules_of case.graph) case.cover.owned A → N ≡ carried case.graph.names A next.graph.names next.opening)
      → N ≡ carried (atoms_in (case_of case)) (ending_of here) (atoms_in (case_of next)) next.opening
  carries_here next N is_next carries =
      let A = after (rules_of case.graph) closed.opening closed.history.entries in
      let end : A ≡ ending_of here =
      ap (λ (G : Rules). after G closed.opening closed.history.entries) is.flat.related
      ∙ (ap (λ (O : Marking). after (rules_in (case_of case)) O closed.history.entries) ran_here.opening ∙ ap (λ (J : List Entry). after (rules_in (case_of case)) M J) ran_here.history) in
      carries A ran.run.marks
      ∙ (ap (λ (l : List (List ℕ)). carried l A next.graph.names next.opening) is.flat.names
      ∙ (ap (λ (l : List (List ℕ)). carried (atoms_in (case_of case)) A l next.opening) is_next.flat.names
      ∙ ap (λ (O : Marking). carried (atoms_in (case_of case)) O (atoms_in (case_of next)) next.opening) end))

  -- those behind it were run
  pub goes_on_here : (rest : List Spelled) (next : Case) (more : List Spelled) (N : Marking) (had mid took : Side) (status : Status) (closed_run : Option Closed) → rest ≡ case_of next ∷ more
      → N ≡ carried (atoms_in (case_of case)) (ending_of here) (atoms_in (case_of next)) next.opening
      → Wrote Done (report_text case.nested case.cover closed.opening closed.history.entries) Done had mid
      → RunsStages (stages_from (case_of next) N more) (Some closed) mid took status closed_run → RunsStages (stages_from (case_of case) M rest) before had took status closed_run
  goes_on_here rest next more N had mid took status closed_run same begins wrote runs =
      let O = carried (atoms_in (case_of case)) (ending_of here) (atoms_in (case_of next)) next.opening in
      subst (λ (l : List Spelled). RunsStages (stages_from (case_of case) M l) before had took status closed_run) (sym same)
      (runs_more here (stages_from (case_of next) O more) closed before had mid took status closed_run ran_here legal_here (adds_here had mid wrote)
      (subst (λ (P : Marking). RunsStages (stages_from (case_of next) P more) (Some closed) mid took status closed_run) begins runs))

-- ---- answers

-- the lines are stages, and were run
pub told_stages : (bytes : List ℕ) (case : Spelled) (rest : List Spelled) (had took : Side) (status : Status) (closed_run : Option Closed)
    → stages_in bytes ≡ Ok (case ∷ rest) → RunsStages (stages_from case case.opening rest) None had took status closed_run
    → AnswersPlain Adapt bytes had took (record { 0 = status; 1 = closed_run; 2 = None })
told_stages bytes case rest had took status closed_run spelled runs = bytes_told (
  refl,
  record {
    stages = stages_from case case.opening rest;
    spelled = spelled ∙ ap Ok (sym (cases_from case case.opening rest));
    first = begins_as_written case rest;
    next = goes_on_from case case.opening rest;
    runs = runs;
  },
)

-- ---- how it ended

-- what an input and an output that don't fail end with
pub starved_stages : (r : Result (List Spelled) StageStop) (status : Status) → status ≡ NoMemory → EndsStages r status
starved_stages (Err why) status e = inr e
starved_stages (Ok cases) status e = inr e

pub stages_ended : (before after : DiskView) (left : Option (List ℕ)) (bytes : List ℕ) (had took : Side) (status : Status) (closed_run : Option Closed) → length bytes ≤ 16777216
    → TellsStages bytes had took status closed_run → IsEnded ⊥ (SaysAt (Some (Read Adapt)) before after left had took closed_run) (IsAnsweredStages bytes status) status had took
stages_ended before after left bytes had took status closed_run few it = record {
  writes = ended.writes;
  reads = ended.reads;
  says = says it.runs.wrote;
  ends = ended.ends;
}
  where
    ended : IsEnded ⊥ (λ s. ⊤) (IsAnsweredStages bytes status) status had took
    ended = ended_with ⊥ (λ s. ⊤) (IsAnsweredStages bytes status) tt tt tt it.runs.wrote (λ adds. tt) (λ _ _ or. record {
      long = λ more. absurd (omega (arith, more, few));
      short = λ _. subst (λ (r : Result (List Spelled) StageStop). EndsStages r status) (sym it.spelled) or;
    })

    says : Wrote Done (reports_of it.stages) status had took → SaysAt (Some (Read Adapt)) before after left had took closed_run status
    says (wrote_all is adds) = subst (SaysAt (Some (Read Adapt)) before after left had took closed_run) (sym is) (record {
      stages = it.stages;
      wrote = adds.0;
      legal = subst (λ (l : List Stage). All (λ (s : Stage). IsReport (report_of s) (length (history_of s))) l)
          (take_all it.runs.count it.stages (let all = it.runs.all is in omega arith)) it.runs.legal;
    })
    says (write_failed is stopped fails) = subst (SaysAt (Some (Read Adapt)) before after left had took closed_run) (sym is) tt
    says (write_starved is stopped same) = subst (SaysAt (Some (Read Adapt)) before after left had took closed_run) (sym is) tt
