use Rattle.std.proofs.Common.{subst, ◌∙◌}
use Rattle.std.proofs.lemmas.Result.{on_ok_weaker, on_err_weaker}
use Rattle.dcr_base.specs.Side.{Adds, Stopped}
use Rattle.dcr_report.proofs.ReportLemmas.{legal_told, told_fits, told_by_names, told_is_report}
use Rattle.dcr_report.proofs.report.write_report.Goals as goal

pub write_lines-requires : goal.write_lines-requires
write_lines-requires g c =
    told_fits _ c.args.cover.now c.site_names.result.now c.args.closed.now c.site_names.ensures.cover c.site_names.ensures.names c.requires.rooms
    (legal_told c.args.graph.now c.args.cover.now c.args.closed.now c.requires.opening c.requires.legal c.requires.marks c.requires.verdict)

pub returns : goal.returns
returns g c =
    let same = told_by_names c.args.nested.now c.args.graph.now c.args.cover.now c.args.closed.now c.requires.flattening
    ∙ told_is_report c.args.nested.now c.args.graph.now c.args.cover.now c.args.closed.now c.requires.flattening c.requires.marks c.requires.verdict in
    let old = g.O.Sink.takes c.args.sink.now in
    let new = g.O.Sink.takes c.write_lines.new.sink in
    record {
      all = on_ok_weaker c.write_lines.result (subst (λ text. Adds text old new) same) c.write_lines.ensures.all;
      not_all = on_err_weaker c.write_lines.result (subst (λ text. Stopped text old new) same) c.write_lines.ensures.not_all;
      counts = c.write_lines.ensures.counts;
    }
