use Rattle.std.proofs.Common.{◌∙◌, sym, ap, get_or, arith}
use Rattle.std.specs.Option.{option_copied}
use Rattle.std.proofs.lemmas.Option.{get_or_from_slice_get}
use Rattle.dcr_report.specs.Report.{site_text}
use Rattle.dcr_report.proofs.ReportLemmas.{line_put, site_at}
use Rattle.dcr_report.proofs.lines.ReportLines.put_site.Goals as goal

pub returns : goal.returns
returns c =
    let told = c.args.self.now in
    let site = c.index-self-i.result in
    let mark = c.unwrap-mark.result.now in
    let found = get_or_from_slice_get told.closed.now.marks c.args.i mark mark (sym c.get.ensures ∙ ap option_copied c.unwrap-mark.ensures) in
    line_put _ _ _ _ _ _ c.in_ok-write_site.ensures.added
    (site_at told.graph.now.names told.sites.now told.closed.now.marks c.args.i site mark (omega arith) (omega arith)
    ∙ ap (λ m. site_text told.graph.now.names (get_or told.sites.now c.args.i site) m) found)
    c.end_line.ensures
