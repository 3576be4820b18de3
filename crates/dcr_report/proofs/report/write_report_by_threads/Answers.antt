use Rattle.std.proofs.Common.{subst}
use Rattle.std.proofs.lemmas.Result.{on_ok_weaker, on_err_weaker}
use Rattle.dcr_base.specs.Side.{Adds, Stopped}
use Rattle.dcr_report.proofs.ReportLemmas.{legal_told, told_is_report}
use Rattle.dcr_report.proofs.report.write_report_by_threads.Goals as goal

pub write_told_by_threads-requires-clause-told : goal.write_told_by_threads-requires-clause-told
write_told_by_threads-requires-clause-told g c = λ _ _. legal_told c.args.graph.now c.args.cover.now c.args.closed.now c.requires.opening c.requires.legal c.requires.marks c.requires.verdict

pub returns : goal.returns
returns g c =
    let same = told_is_report c.args.nested.now c.args.graph.now c.args.cover.now c.args.closed.now c.requires.flattening c.requires.marks c.requires.verdict in
    let old = g.O.Sink.takes c.args.sink.now in
    let new = g.O.Sink.takes c.write_told_by_threads.new.sink in
    record {
      all = on_ok_weaker c.write_told_by_threads.result (subst (λ text. Adds text old new) same) c.write_told_by_threads.ensures.all;
      not_all = on_err_weaker c.write_told_by_threads.result (subst (λ text. Stopped text old new) same) c.write_told_by_threads.ensures.not_all;
      counts = c.write_told_by_threads.ensures.counts;
    }
