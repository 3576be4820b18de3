-- What was put is the lines so far.
use Rattle.std.proofs.Common.{Ok}
use Rattle.dcr_report.specs.Report.{text_between}
use Rattle.dcr_report.specs.Writing.{Puts}
use Rattle.dcr_report.proofs.writer.Writer.put_lines.Given as goal

abbrev pub invariant-loop-place : goal.invariant-loop-place
invariant-loop-place g l = Puts g.O.Sink.takes (Ok (tt {0})) (text_between (g.L.Lines.lines l.lines) 0 l.place) l.initial.self l.self
