use Rattle.std.proofs.Common.{◌≡◌, ℕ, List, [], ◌++◌, Result, OnOk, codes, get_or, refl, sym, ap, ◌∙◌, arith}
use Rattle.std.proofs.lemmas.Result.{on_ok_weaker}
use Rattle.dcr_report.specs.Report.{head_lines, line, version_text}
use Rattle.dcr_report.specs.declared.head.HeadLines.{HeadLines}
use Rattle.dcr_report.proofs.head.HeadLinesLines.put.Goals as goal

-- the text of the line at a place
line_at : {T E : Type 0} (r : Result T E) (lines : List (List ℕ)) (place n : ℕ) (old new text : List ℕ) → place ≡ n → text ≡ get_or lines n []
    → OnOk r (new ≡ old ++ line text) → OnOk r (new ≡ old ++ line (get_or lines place []))
line_at r lines place n old new text here is put =
    on_ok_weaker r (λ e. e ∙ ap (λ t. old ++ line t) (is ∙ sym (ap (λ p. get_or lines p []) here))) put

abbrev lines_of : HeadLines → List (List ℕ)
lines_of head = head_lines head.nested.now head.cover.now head.graph.now.names head.opening.now

pub returns-in-0 : goal.returns-in-0
returns-in-0 c =
    line_at _ (lines_of c.args.self.now) _ 0 _ _ _ c.in-0.is (c.version-in-0.ensures ∙ ap version_text c.version.ensures) c.put_line.ensures

pub returns-in_ok-graph_text-in-1 : goal.returns-in_ok-graph_text-in-1
returns-in_ok-graph_text-in-1 c =
    line_at _ (lines_of c.args.self.now) _ 1 _ _ _ c.in-1.is (ap (λ t. codes "graph " ++ t) (c.deref.ensures.value ∙ c.in_ok-graph_text-in-1.ensures.text)) c.put_line-in-1.ensures

pub returns-in_ok-cover-in-2 : goal.returns-in_ok-cover-in-2
returns-in_ok-cover-in-2 c =
    line_at _ (lines_of c.args.self.now) _ 2 _ _ _ c.in-2.is (ap (λ t. codes "cover " ++ t) (c.deref-in-2.ensures.value ∙ c.in_ok-cover-in-2.ensures.text)) c.put_line-in-2.ensures

pub returns-in_default : goal.returns-in_default
returns-in_default c =
    let here : c.args.place ≡ 3 = omega arith in
    line_at _ (lines_of c.args.self.now) _ 3 _ _ _ here refl c.put_opening.ensures
