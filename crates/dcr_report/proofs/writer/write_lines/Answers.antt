use Rattle.std.proofs.Common.{◌≡◌, rules}
use Rattle.dcr_report.specs.Report.{lines_text}
use Rattle.dcr_report.proofs.Passing.{told}
use Rattle.dcr_report.proofs.writer.write_lines.Goals as goal

pub returns : goal.returns
returns g c =
    let same : c.sink-1.given.0 ≡ c.put_lines-told.new.self.sink.now = search rules in
    let all = told g.O.Sink.takes (lines_text (g.L.Lines.lines c.args.lines.now)) c.new-writer.result c.put_lines-told.new.self c.args.sink.now c.sink-1.given.0 c.put_lines-told.result
    c.new-writer.ensures.now same c.new-writer.ensures.nothing_held c.put_lines-told.ensures.emptied c.put_lines-told.ensures.put in
    record { all = all.0; not_all = all.1; counts = all.2 }
