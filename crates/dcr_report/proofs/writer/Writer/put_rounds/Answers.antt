use Rattle.std.proofs.Common.{◌≡◌, ◌++◌, ap, ◌∙◌, length, append-nil, arith}
use Rattle.dcr_report.specs.Report.{text_between}
use Rattle.dcr_report.specs.ReportLines.{lines_of}
use Rattle.dcr_report.proofs.Passing.{Puts-as, Puts-err, Puts-more, Puts-none, Puts-then, between_all, between_both, between_none}
use Rattle.dcr_report.proofs.writer.Writer.put_rounds.Goals as goal

pub loop-from-init : goal.loop-from-init
loop-from-init g c = record { put = Puts-none g.O.Sink.takes _ (between_none (lines_of c.args.lines.now) 0 0 (omega arith)); within = omega arith }

pub loop-from-preserved : goal.loop-from-preserved
loop-from-preserved g c = record {
  put = Puts-as (between_both (lines_of c.args.lines.now) 0 c.loop-from.from c.min-to.result (omega arith) (omega arith)) (Puts-then c.loop-from.invariant.put c.in_ok-put_round.ensures.put);
  within = omega arith;
}

pub returns-in_err-put_round-clause-put : goal.returns-in_err-put_round-clause-put
returns-in_err-put_round-clause-put g c =
    let L = lines_of c.args.lines.now in
    let from = c.loop-from.from in
    let to = c.min-to.result in
    let rest = text_between L to (length L) in
    Puts-err _ c.from_residual.ensures.1
    (Puts-as (ap (λ t. t ++ rest) (between_both L 0 from to (omega arith) (omega arith)) ∙ between_both L 0 to (length L) (omega arith) (omega arith) ∙ between_all L)
    (Puts-more rest (Puts-then c.loop-from.invariant.put c.in_err-put_round.ensures.put)))

pub returns-clause-put : goal.returns-clause-put
returns-clause-put g c =
    let L = lines_of c.args.lines.now in
    let end : c.loop-from.from ≡ length L = omega arith in
    Puts-as (append-nil (text_between L 0 c.loop-from.from) ∙ ap (text_between L 0) end ∙ between_all L) (Puts-then c.loop-from.invariant.put c.pass.ensures.passed)
