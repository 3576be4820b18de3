use Rattle.std.proofs.Common.{◌≡◌, rules}
use Rattle.dcr_report.specs.Report.{lines_text}
use Rattle.dcr_report.specs.ReportLines.{lines_of}
use Rattle.dcr_report.proofs.Passing.{told}
use Rattle.dcr_report.proofs.pieces.write_by_threads.Goals as goal

pub returns : goal.returns
returns g c =
    let same : c.sink-1.given.0 ≡ c.put_rounds-told.new.self.sink.now = search rules in
    let all = told g.O.Sink.takes (lines_text (lines_of c.args.lines.now)) c.new-writer.result c.put_rounds-told.new.self c.args.sink.now c.sink-1.given.0 c.put_rounds-told.result
    c.new-writer.ensures.now same c.new-writer.ensures.nothing_held c.put_rounds-told.ensures.emptied c.put_rounds-told.ensures.put in
    record { all = all.0; not_all = all.1; counts = all.2 }
