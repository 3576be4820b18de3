-- The run that the sites have by themselves, and the run of the graph beside it.
use Rattle.std.specs.Prelude.{ℕ, List, [], ◌∷◌, ◌++◌, fold, if◌then◌else◌}
use Rattle.std.specs.Option.{option_map_or}
use Rattle.dcr_set.specs.EventSet.{Set, has}
use Rattle.dcr_graph.specs.Rules.{Rules}
use Rattle.dcr_graph.specs.Rows.{row}
use Rattle.dcr_graph.specs.declared.marking.Marking.{Marking}
use Rattle.dcr_graph.specs.declared.marking.SiteMark.{SiteMark}
use Rattle.dcr_journal.specs.Answer.{outcome_of, verdict_of}
use Rattle.dcr_journal.specs.Run.{event_done, made_by, after, told_next, marks_at}
use Rattle.dcr_journal.specs.declared.call.Call.{Call}
use Rattle.dcr_journal.specs.declared.call.Call.TheVariants.{Exec, Look, Enabled, Accepting}
use Rattle.dcr_journal.specs.declared.call.Outcome.{Outcome}
use Rattle.dcr_journal.specs.declared.call.Outcome.TheVariants.{NotHere, Marks, Can}
use Rattle.dcr_journal.specs.declared.call.Entry.{Entry}
use Rattle.dcr_laws.specs.AtSites.{mark_of, cause_at, enabled_at, waits_over, stepped_over}

-- The answer by the sites' marks. To an execution: not here where the site doesn't own the event, else the cause that
-- blocks it there, else done. To a look and to the question what is enabled: by the marks of that site. To the
-- question whether all is accepting: the least of what the sites wait for.
abbrev pub local_answer : Rules → List Set → List SiteMark → Call → Outcome
local_answer G C marks (Exec i e) = if has (row C i) e then outcome_of (cause_at G (row C i) (mark_of marks i) e) else NotHere
local_answer G C marks (Look i) = Marks (mark_of marks i)
local_answer G C marks (Enabled i) = Can (enabled_at G (row C i) (mark_of marks i))
local_answer G C marks Accepting = verdict_of (waits_over G.atoms C marks)

-- the entries so far, and the sites' marks
pub record Run : Type 0 where
  pub entries : List Entry
  pub marks : List SiteMark

-- one call more, answered by the marks; an execution that was done steps the sites that hear of it
abbrev pub local_next : Rules → List Set → Run → ℕ × Call → Run
local_next G C run asked =
    let outcome = local_answer G C run.marks asked.1 in record {
      entries = run.entries ++ record {
        session = asked.0;
        seq = made_by asked.0 run.entries;
        call = asked.1;
        outcome = outcome;
      } ∷ [];
      marks = option_map_or (stepped_over G C run.marks) (event_done asked.1 outcome) run.marks;
    }

-- the run of the sites from the marks that they have at M, each call with its session's number
abbrev pub run_of_sites : Rules → List Set → Marking → List (ℕ × Call) → Run
run_of_sites G C M asked = fold (local_next G C) (record { entries = []; marks = marks_at G C M }) asked

-- the entries of a run of the graph from M, and the marks that the sites have after it
abbrev pub seen_after : Rules → List Set → Marking → List Entry → Run
seen_after G C M J = record { entries = J; marks = marks_at G C (after G M J) }

-- the run of the graph from M
abbrev pub run_of_graph : Rules → List Set → Marking → List (ℕ × Call) → Run
run_of_graph G C M asked = seen_after G C M (fold (told_next G C M) [] asked)
