use Rattle.std.proofs.Common.{◌-◌, ◌<◌, ◌++◌, codes, decimal, sym, ap, ◌∙◌, length, arith}
use Rattle.std.proofs.lemmas.Option.{get_or_from_slice_get}
use Rattle.std.proofs.lemmas.Result.{on_ok_weaker}
use Rattle.dcr_line.specs.Line.{entry_text}
use Rattle.dcr_report.specs.Report.{line}
use Rattle.dcr_report.specs.ReportLines.{has_lines}
use Rattle.dcr_report.specs.declared.lines.ReportLines.{ReportLines}
use Rattle.dcr_report.proofs.ReportLemmas.{AreParts, are_parts, entry_at, line_put}
use Rattle.dcr_report.proofs.lines.ReportLinesLines.put.Goals as goal

parts_of : (told : ReportLines) → has_lines told → AreParts told.nested.now told.cover.now told.graph.now.names told.sites.now told.closed.now
parts_of told fits = are_parts told.nested.now told.cover.now told.graph.now.names told.sites.now told.closed.now fits.named fits.as_many_marks

pub returns-then-place-entries : goal.returns-then-place-entries
returns-then-place-entries c =
    let told = c.args.self.now in
    let J = told.closed.now.history.entries in
    let i = c.args.place - 4 in
    let entry = c.read.new.entry in
    let within : i < length J = omega arith in
    line_put _ _ _ _ _ _ c.in_ok-write_entry.ensures.added
    ((parts_of told c.requires.fits).entry c.args.place i (omega arith) within
    ∙ entry_at told.cover.now.names told.graph.now.names 0 J i i entry (omega arith) within
    ∙ ap (entry_text told.cover.now.names told.graph.now.names i) (get_or_from_slice_get J i entry entry c.read.ensures))
    c.end_line.ensures

pub returns-then-behind-self : goal.returns-then-behind-self
returns-then-behind-self c =
    let told = c.args.self.now in
    let here = (parts_of told c.requires.fits).site c.args.place (c.args.place - 4 - c.len-entries.result) (omega arith) (omega arith) in
    on_ok_weaker c.put_site.result (λ e. e ∙ ap (λ t. c.args.text.now.items ++ line t) (sym here)) c.put_site.ensures

pub returns-then-behind-self-2 : goal.returns-then-behind-self-2
returns-then-behind-self-2 c =
    line_put _ _ _ _ _ _ c.in_ok-write_verdict.ensures.added ((parts_of c.args.self.now c.requires.fits).verdict c.args.place (omega arith)) c.end_line-then-behind-self-2.ensures

pub returns : goal.returns
returns c =
    let parts = parts_of c.args.self.now c.requires.fits in
    let count = parts.count in
    line_put _ _ _ _ _ _ c.in_ok-write_end.ensures.added (parts.ending c.args.place (omega (arith, count)) ∙ ap (λ n. codes "end " ++ decimal n) (sym c.len-entries.ensures.len)) c.end_line-2.ensures
