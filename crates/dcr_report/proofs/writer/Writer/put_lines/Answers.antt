use Rattle.std.proofs.Common.{◌≡◌, ◌+◌, ◌++◌, ap, ◌∙◌, length, refl, append-nil, arith}
use Rattle.dcr_report.specs.Report.{text_between}
use Rattle.dcr_report.proofs.Passing.{Puts-as, Puts-err, Puts-held, Puts-memory, Puts-more, Puts-none, Puts-then, between_all, between_both, between_next, between_none, between_some}
use Rattle.dcr_report.proofs.writer.Writer.put_lines.Goals as goal

pub loop-place-init : goal.loop-place-init
loop-place-init g c = Puts-none g.O.Sink.takes _ (between_none (g.L.Lines.lines c.args.lines.now) 0 0 (omega arith))

pub loop-place-preserved : goal.loop-place-preserved
loop-place-preserved g c =
    Puts-as (between_next (g.L.Lines.lines c.args.lines.now) c.loop-place.place (omega arith))
    (Puts-then c.loop-place.invariant (Puts-then (Puts-held g.O.Sink.takes _ _ refl c.in_ok-put.ensures) c.in_ok-pass_full.ensures))

pub returns-in_err-put-clause-put : goal.returns-in_err-put-clause-put
returns-in_err-put-clause-put g c =
    let L = g.L.Lines.lines c.args.lines.now in
    let place = c.loop-place.place in
    Puts-err _ c.from_residual.ensures.1
    (Puts-as (between_both L 0 place (length L) (omega arith) (omega arith) ∙ between_all L)
    (Puts-then c.loop-place.invariant (Puts-memory g.O.Sink.takes _ _ refl (between_some L place (length L) (omega arith) (omega arith)))))

pub returns-in_err-pass_full-clause-put : goal.returns-in_err-pass_full-clause-put
returns-in_err-pass_full-clause-put g c =
    let L = g.L.Lines.lines c.args.lines.now in
    let place = c.loop-place.place in
    let rest = text_between L (place + 1) (length L) in
    Puts-err _ c.from_residual-in_err-pass_full.ensures.1
    (Puts-as (ap (λ t. t ++ rest) (between_next L place (omega arith)) ∙ between_both L 0 (place + 1) (length L) (omega arith) (omega arith) ∙ between_all L)
    (Puts-more rest (Puts-then c.loop-place.invariant (Puts-then (Puts-held g.O.Sink.takes _ _ refl c.in_ok-put.ensures) c.in_err-pass_full.ensures))))

pub returns-clause-put : goal.returns-clause-put
returns-clause-put g c =
    let L = g.L.Lines.lines c.args.lines.now in
    let end : c.loop-place.place ≡ length L = omega arith in
    Puts-as (append-nil (text_between L 0 c.loop-place.place) ∙ ap (text_between L 0) end ∙ between_all L) (Puts-then c.loop-place.invariant c.pass.ensures.passed)
