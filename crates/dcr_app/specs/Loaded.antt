-- What comes of the case that a number spells.
use Rattle.std.specs.Prelude.{◌≡◌, ℕ, List, ◌++◌, codes, count_by, decimal, length, not, Option, Some, None}
use Rattle.dcr_base.specs.Side.{Side}
use Rattle.dcr_base.specs.declared.status.Status.{Status}
use Rattle.dcr_base.specs.declared.status.Status.TheVariants.{Done}
use Rattle.dcr_graph.specs.Cause.{waits}
use Rattle.dcr_journal.specs.Run.{after, marks_at, told}
use Rattle.dcr_journal.specs.declared.call.Entry.{Entry}
use Rattle.dcr_journal.specs.declared.closed.Closed.{Closed}
use Rattle.dcr_report.specs.Report.{line, verdict_text}
use Rattle.dcr_replay.specs.EntryLines.{is_done}
use Rattle.dcr_load.specs.Load.{load}
use Rattle.dcr_app.specs.Headline.{rules_in}
use Rattle.dcr_app.specs.Outside.{IsStarved, Wrote}
use Rattle.dcr_app.specs.Telling.{atoms_in}

-- how many entries are executions that were done, and how many are not
abbrev pub count_done : List Entry → ℕ
count_done J = count_by (λ (entry : Entry). is_done entry.outcome) J

abbrev pub count_other : List Entry → ℕ
count_other J = count_by (λ (entry : Entry). not (is_done entry.outcome)) J

-- The line that tells of the case of this number: how many entries its history has, how many of them were done, and the
-- verdict, where the atoms have these names and this one is waited for.
abbrev pub load_line : ℕ → List (List ℕ) → List Entry → Option ℕ → List ℕ
load_line number names J waited =
    line (codes "load " ++ decimal number ++ codes " entries " ++ decimal (length J) ++ codes " done " ++ decimal (count_done J)
    ++ codes " other " ++ decimal (count_other J) ++ codes " " ++ verdict_text names waited)

-- The run of the case of this number by one worker is told, and its line was due.
pub record TellsLoad (number : ℕ) (had took : Side) (status : Status) (closed : Closed) : Type 0 where
  pub opening : closed.opening ≡ (load number).opening
  -- its sessions one after the other, each call with the graph's answer at its place
  pub history : closed.history.entries ≡ told (rules_in (load number)) (load number).cover.owned (load number).opening (load number).sessions
  pub entries : length closed.history.entries ≡ 20000
  -- every site's marks are the projection of the marking after the history, and the verdict is that marking's
  pub marks : closed.marks ≡ marks_at (rules_in (load number)) (load number).cover.owned (after (rules_in (load number)) (load number).opening closed.history.entries)
  pub waits : closed.waits ≡ waits (rules_in (load number)).atoms (after (rules_in (load number)) (load number).opening closed.history.entries)
  pub wrote : Wrote Done (load_line number (atoms_in (load number)) closed.history.entries closed.waits) status had took

-- where no run is told, memory ran out before anything was written
abbrev pub AnswersLoad : ℕ → Side → Side → Status → Option Closed → Type 0
AnswersLoad number had took status None = IsStarved status had took
AnswersLoad number had took status (Some closed) = TellsLoad number had took status closed
