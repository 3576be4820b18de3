use Rattle.std.proofs.Common.{◌≡◌, ◌++◌, List, length}
use Rattle.dcr_journal.specs.declared.call.Entry.{Entry}
use Rattle.dcr_report.specs.Report.{entry_lines}
use Rattle.dcr_replay.specs.EntryLines.{Setting, names_in}
use Rattle.dcr_replay.specs.ReportLines.{ended}
use Rattle.dcr_replay.specs.Stands.{IsOver, IsSound, Stands}
use Rattle.dcr_replay.proofs.check.check_run.Given as goal

-- the run stands after some entries, and the lines were theirs and then those that are left
abbrev pub invariant-loop-line : goal.invariant-loop-line
invariant-loop-line l =
    IsSound l.run
    × ((S : Setting) → IsOver S l.graph l.cover → l.opening ≡ S.opening
    → (J : List Entry) × Stands S J l.run × (l.fn.lines ≡ ended (entry_lines S.cover.names (names_in S) 0 J) ++ l.lines))

abbrev pub decreases-loop-line : goal.decreases-loop-line
decreases-loop-line l = length l.lines
