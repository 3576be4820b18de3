-- What was put is the lines of the rounds so far.
use Rattle.std.proofs.Common.{◌-◌, ◌≤◌, length, Ok}
use Rattle.dcr_report.specs.Report.{text_between}
use Rattle.dcr_report.specs.ReportLines.{lines_of}
use Rattle.dcr_report.specs.Writing.{Puts}
use Rattle.dcr_report.proofs.writer.Writer.put_rounds.Given as goal

abbrev pub invariant-loop-from : goal.invariant-loop-from
invariant-loop-from g l = record {
  put : Puts g.O.Sink.takes (Ok (tt {0})) (text_between (lines_of l.lines) 0 l.from) l.initial.self l.self;
  within : l.from ≤ length (lines_of l.lines);
}

abbrev pub decreases-loop-from : goal.decreases-loop-from
decreases-loop-from g l = length (lines_of l.lines) - l.from
