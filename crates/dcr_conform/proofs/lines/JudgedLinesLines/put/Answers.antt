use Rattle.std.proofs.Common.{◌≡◌, ◌-◌, [], ◌∷◌, ◌++◌, get_or, length, sym, ap, ◌∙◌, arith}
use Rattle.std.proofs.lemmas.List.{get_or_append_left, get_or-append_right, length-append}
use Rattle.std.proofs.lemmas.Result.{on_ok_weaker}
use Rattle.dcr_report.specs.Report.{line}
use Rattle.dcr_conform.specs.Lines.{count_line, judged_lines}
use Rattle.dcr_conform.proofs.LineLemmas.{length-judged_lines, line_at}
use Rattle.dcr_conform.proofs.lines.JudgedLinesLines.put.Goals as goal

pub returns-then-place-self : goal.returns-then-place-self
returns-then-place-self c =
    let told = c.args.self.now in
    let names = told.graph.now.names in
    let lines = judged_lines names told.traces.now told.judged.now in
    let many = length-judged_lines names told.traces.now told.judged.now c.requires.fits.0 in
    let here = get_or_append_left lines (count_line (length told.traces.now) ∷ []) [] c.args.place (omega (arith, many))
    ∙ line_at names told.traces.now told.judged.now c.args.place c.index-self-place.result c.index-self-place-then-place-self.result (omega arith) c.requires.fits.0 in
    on_ok_weaker c.put_trace.result (λ e. e ∙ ap (λ t. c.args.text.now.items ++ line t) (sym here)) c.put_trace.ensures

pub returns : goal.returns
returns c =
    let told = c.args.self.now in
    let names = told.graph.now.names in
    let lines = judged_lines names told.traces.now told.judged.now in
    let many = length-judged_lines names told.traces.now told.judged.now c.requires.fits.0 in
    let none : c.args.place - length told.traces.now ≡ 0 = omega (arith, many, length-append lines (count_line (length told.traces.now) ∷ [])) in
    let here = get_or-append_right lines (count_line (length told.traces.now) ∷ []) (length told.traces.now) c.args.place [] many (omega arith)
    ∙ ap (λ i. get_or (count_line (length told.traces.now) ∷ []) i []) none in
    on_ok_weaker c.put_count.result (λ e. e ∙ ap (λ t. c.args.text.now.items ++ line t) (sym here)) c.put_count.ensures
