use Rattle.std.proofs.Common.{refl, sym, ◌∙◌, append-nil}
use Rattle.dcr_report.proofs.Passing.{Puts-err, Puts-fault, Puts-written}
use Rattle.dcr_report.proofs.writer.Writer.pass.Goals as goal

pub returns-in_err-write_all-clause-passed : goal.returns-in_err-write_all-clause-passed
returns-in_err-write_all-clause-passed g c =
    let fault = c.in_err-write_all.ensures in
    Puts-err _ c.from_residual.ensures.1
    (Puts-fault g.O.Sink.takes _ _ _ _ refl (c.deref.ensures.value ∙ sym (append-nil c.args.self.now.held.items)) fault.front fault.not_all fault.counts)

pub returns-clause-passed : goal.returns-clause-passed
returns-clause-passed g c =
    let all = c.in_ok-write_all.ensures in
    Puts-written g.O.Sink.takes _ _ _ refl (c.deref.ensures.value ∙ sym (append-nil c.args.self.now.held.items)) all.all all.counts c.clear.ensures.items
