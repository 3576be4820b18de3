use Rattle.std.proofs.Common.{arith}
use Rattle.dcr_report.proofs.ReportLemmas.{are_parts}
use Rattle.dcr_report.proofs.lines.ReportLinesLines.count.Goals as goal

pub returns-clause-all : goal.returns-clause-all
returns-clause-all c =
    let told = c.args.self.now in
    let count = (are_parts told.nested.now told.cover.now told.graph.now.names told.sites.now told.closed.now c.requires.named c.requires.as_many_marks).count in
    omega (arith, count)
