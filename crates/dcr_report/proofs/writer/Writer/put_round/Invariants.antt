-- What was put is the lines of the pieces so far.
use Rattle.std.proofs.Common.{◌+◌, ◌*◌, min, Ok}
use Rattle.dcr_report.specs.Report.{text_between}
use Rattle.dcr_report.specs.ReportLines.{lines_of}
use Rattle.dcr_report.specs.Writing.{Puts}
use Rattle.dcr_report.proofs.writer.Writer.put_round.Given as goal

abbrev pub invariant-loop-piece : goal.invariant-loop-piece
invariant-loop-piece g l =
    Puts g.O.Sink.takes (Ok (tt {0})) (text_between (lines_of l.lines) l.from (min (l.from + l.piece-index * l.run) l.to)) l.initial.self l.self
