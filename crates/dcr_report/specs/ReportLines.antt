-- The lines of a `ReportLines`, and when it has them.
use Rattle.std.specs.Prelude.{ℕ, List, length}
use Rattle.dcr_report.specs.FitsClosed.{FitsReport}
use Rattle.dcr_report.specs.Report.{told_lines}
use Rattle.dcr_report.specs.declared.lines.ReportLines.{ReportLines}

abbrev pub lines_of : ReportLines → List (List ℕ)
lines_of report = told_lines report.nested.now report.cover.now report.graph.now.names report.closed.now

abbrev pub has_lines : ReportLines → Type 0
has_lines report = FitsReport (length report.graph.now.names) report.cover.now report.sites.now report.closed.now
