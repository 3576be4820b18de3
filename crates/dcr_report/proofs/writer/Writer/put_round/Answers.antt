use Rattle.std.proofs.Common.{◌≡◌, ◌+◌, ◌*◌, ◌++◌, min, false, true, length, get_or, refl, sym, ap, ◌∙◌, add-one, arith}
use Rattle.std.proofs.Math.Nat.{suc-mul, zero-mul}
use Rattle.dcr_report.specs.Report.{text_between}
use Rattle.dcr_report.specs.ReportLines.{lines_of}
use Rattle.dcr_report.specs.declared.pieces.Piece.{Piece}
use Rattle.dcr_report.proofs.Passing.{Puts-as, Puts-err, Puts-memory, Puts-more, Puts-none, Puts-then, between_both, between_none, between_some}
use Rattle.dcr_report.proofs.writer.Writer.put_round.Goals as goal

pub loop-piece-init : goal.loop-piece-init
loop-piece-init g c =
    let none : 0 * c.args.run ≡ 0 = zero-mul c.args.run in
    Puts-none g.O.Sink.takes _ (between_none _ c.args.from (min (c.args.from + 0 * c.args.run) c.args.to) (omega arith))

pub loop-piece-preserved : goal.loop-piece-preserved
loop-piece-preserved g c =
    let L = lines_of c.args.lines.now in
    let from = c.args.from in
    let to = c.args.to in
    let run = c.args.run in
    let k = c.loop-piece.piece-index in
    let piece = c.piece-item.result in
    let is_whole : (get_or c.make_pieces.new.pieces k piece).is_whole ≡ true = ap (λ (p : Piece). p.is_whole) (sym c.piece-item.is) ∙ c.if-not-piece.false in
    let text = c.deref.ensures.value ∙ ap (λ (p : Piece). p.text.items) c.piece-item.is ∙ c.make_pieces.ensures.whole k piece (omega arith) is_whole in
    let one : (k + 1) * run ≡ k * run + run = ap (λ m. m * run) (add-one k) ∙ suc-mul k run in
    let next : min (from + k * run + run) to ≡ min (from + (k + 1) * run) to = omega arith in
    Puts-as (between_both L from (min (from + k * run) to) (min (from + k * run + run) to) (omega arith) (omega arith) ∙ ap (text_between L from) next)
    (Puts-then c.loop-piece.invariant (Puts-as text c.in_ok-put_text.ensures))

pub returns-then-not-piece-clause-put : goal.returns-then-not-piece-clause-put
returns-then-not-piece-clause-put g c =
    let L = lines_of c.args.lines.now in
    let from = c.args.from in
    let to = c.args.to in
    let run = c.args.run in
    let k = c.loop-piece.piece-index in
    let piece = c.piece-item.result in
    let cut : (get_or c.make_pieces.new.pieces k piece).is_whole ≡ false = ap (λ (p : Piece). p.is_whole) (sym c.piece-item.is) ∙ c.if-not-piece.true in
    let some = c.make_pieces.ensures.cut k piece (omega arith) cut in
    Puts-as (between_both L from (min (from + k * run) to) to (omega arith) (omega arith))
    (Puts-then c.loop-piece.invariant (Puts-memory g.O.Sink.takes _ _ refl (between_some L (min (from + k * run) to) to (omega arith) (omega arith))))

pub returns-in_err-put_text-clause-put : goal.returns-in_err-put_text-clause-put
returns-in_err-put_text-clause-put g c =
    let L = lines_of c.args.lines.now in
    let from = c.args.from in
    let to = c.args.to in
    let run = c.args.run in
    let k = c.loop-piece.piece-index in
    let piece = c.piece-item.result in
    let is_whole : (get_or c.make_pieces.new.pieces k piece).is_whole ≡ true = ap (λ (p : Piece). p.is_whole) (sym c.piece-item.is) ∙ c.if-not-piece.false in
    let text = c.deref.ensures.value ∙ ap (λ (p : Piece). p.text.items) c.piece-item.is ∙ c.make_pieces.ensures.whole k piece (omega arith) is_whole in
    let there = min (from + k * run + run) to in
    let rest = text_between L there to in
    Puts-err _ c.from_residual.ensures.1
    (Puts-as (ap (λ t. t ++ rest) (between_both L from (min (from + k * run) to) there (omega arith) (omega arith)) ∙ between_both L from there to (omega arith) (omega arith))
    (Puts-more rest (Puts-then c.loop-piece.invariant (Puts-as text c.in_err-put_text.ensures))))

pub returns-clause-put : goal.returns-clause-put
returns-clause-put g c =
    let from = c.args.from in
    let to = c.args.to in
    let run = c.args.run in
    let many : c.loop-piece.piece-index ≡ length c.args.pieces.now = let as_many = c.make_pieces.ensures.as_many in omega arith in
    let end : min (from + length c.args.pieces.now * run) to ≡ to = omega arith in
    Puts-as (ap (λ n. text_between (lines_of c.args.lines.now) from (min (from + n * run) to)) many ∙ ap (text_between (lines_of c.args.lines.now) from) end) c.loop-piece.invariant
