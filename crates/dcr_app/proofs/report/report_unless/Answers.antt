use Rattle.std.proofs.Common.{refl}
use Rattle.dcr_app.specs.Outside.{write_starved}
use Rattle.dcr_app.proofs.LinksLemmas.{nothing_of}
use Rattle.dcr_app.proofs.report.report_unless.Goals as goal

pub returns-then-no_memory-clause-wrote : goal.returns-then-no_memory-clause-wrote
returns-then-no_memory-clause-wrote g c =
    let case = c.args.case.now in let closed = c.args.closed.now in
    write_starved refl (nothing_of case.nested case.cover closed.opening closed.history.entries (g.O.Sink.takes c.args.output.now)) refl
