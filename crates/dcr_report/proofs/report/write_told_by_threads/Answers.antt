use Rattle.std.proofs.Common.{subst}
use Rattle.std.proofs.lemmas.Result.{on_ok_weaker, on_err_weaker}
use Rattle.dcr_base.specs.Side.{Adds, Stopped}
use Rattle.dcr_report.proofs.ReportLemmas.{told_fits, told_by_names}
use Rattle.dcr_report.proofs.report.write_told_by_threads.Goals as goal

pub write_by_threads-requires-clause-fits : goal.write_by_threads-requires-clause-fits
write_by_threads-requires-clause-fits g c = λ _ _.
    told_fits _ c.args.cover.now c.site_names.result.now c.args.closed.now c.site_names.ensures.cover c.site_names.ensures.names c.requires.rooms c.requires.told

pub returns : goal.returns
returns g c =
    let same = told_by_names c.args.nested.now c.args.graph.now c.args.cover.now c.args.closed.now c.requires.flattening in
    let old = g.O.Sink.takes c.args.sink.now in
    let new = g.O.Sink.takes c.write_by_threads.new.sink in
    record {
      all = on_ok_weaker c.write_by_threads.result (subst (λ text. Adds text old new) same) c.write_by_threads.ensures.all;
      not_all = on_err_weaker c.write_by_threads.result (subst (λ text. Stopped text old new) same) c.write_by_threads.ensures.not_all;
      counts = c.write_by_threads.ensures.counts;
    }
