-- What was added is the lines so far.
use Rattle.std.proofs.Common.{◌≡◌, ◌++◌}
use Rattle.dcr_report.specs.Report.{text_between}
use Rattle.dcr_report.proofs.writer.add_lines.Given as goal

abbrev pub invariant-loop-place : goal.invariant-loop-place
invariant-loop-place g l = l.text.items ≡ l.initial.text.items ++ text_between (g.L.Lines.lines l.lines) l.from l.place
