use Rattle.std.proofs.Common.{refl, sym, ap, ◌++◌}
use Rattle.dcr_report.proofs.Passing.{Puts-err, Puts-fault, Puts-more, Puts-then, Puts-written}
use Rattle.dcr_report.proofs.writer.Writer.put_text.Goals as goal

pub returns-in_err-pass : goal.returns-in_err-pass
returns-in_err-pass g c = Puts-err _ c.from_residual.ensures.1 (Puts-more c.args.text.now c.in_err-pass.ensures.passed)

pub returns-in_err-write_all : goal.returns-in_err-write_all
returns-in_err-write_all g c =
    let fault = c.in_err-write_all.ensures in
    Puts-err _ c.from_residual-in_err-write_all.ensures.1
    (Puts-then c.in_ok-pass.ensures.passed
    (Puts-fault g.O.Sink.takes _ _ c.args.text.now _ refl (ap (λ l. l ++ c.args.text.now) (sym c.in_ok-pass.ensures.emptied)) fault.front fault.not_all fault.counts))

pub returns : goal.returns
returns g c =
    let all = c.in_ok-write_all.ensures in
    Puts-then c.in_ok-pass.ensures.passed
    (Puts-written g.O.Sink.takes _ _ c.args.text.now refl (ap (λ l. l ++ c.args.text.now) (sym c.in_ok-pass.ensures.emptied)) all.all all.counts c.in_ok-pass.ensures.emptied)
