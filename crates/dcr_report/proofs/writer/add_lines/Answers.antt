use Rattle.std.proofs.Common.{◌≡◌, ◌++◌, [], ◌+◌, get_or, sym, ap, ◌∙◌, append_assoc, append-nil, arith}
use Rattle.dcr_report.specs.Report.{line, text_between}
use Rattle.dcr_report.proofs.Passing.{between_both, between_none, between_one}
use Rattle.dcr_report.proofs.writer.add_lines.Goals as goal

pub loop-place-init : goal.loop-place-init
loop-place-init g c =
    let text = c.args.text.now.items in
    sym (append-nil text) ∙ ap (λ t. text ++ t) (sym (between_none (g.L.Lines.lines c.args.lines.now) c.args.from c.args.from (omega arith)))

pub loop-place-preserved : goal.loop-place-preserved
loop-place-preserved g c =
    let L = g.L.Lines.lines c.args.lines.now in
    let from = c.args.from in
    let place = c.loop-place.place in
    let text = c.args.text.now.items in
    let next = line (get_or L place []) in
    c.in_ok-put.ensures ∙ ap (λ t. t ++ next) c.loop-place.invariant ∙ append_assoc text (text_between L from place) next
    ∙ ap (λ t. text ++ (text_between L from place ++ t)) (sym (append-nil next) ∙ sym (between_one L place (omega arith)))
    ∙ ap (λ t. text ++ t) (between_both L from place (place + 1) (omega arith) (omega arith))

pub returns-clause-added : goal.returns-clause-added
returns-clause-added g c =
    let end : c.loop-place.place ≡ c.args.to = omega arith in
    c.loop-place.invariant ∙ ap (λ n. c.args.text.now.items ++ text_between (g.L.Lines.lines c.args.lines.now) c.args.from n) end
