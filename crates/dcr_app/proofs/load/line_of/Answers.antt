use Rattle.std.proofs.Common.{◌≡◌, ◌++◌, ◌-◌, ◌∙◌, ℕ, List, IfOk, ap, arith, codes, decimal, length, refl, subst}
use Rattle.dcr_report.specs.Report.{verdict_text}
use Rattle.dcr_app.specs.Loaded.{count_other}
use Rattle.dcr_app.proofs.load.line_of.Goals as goal

pub returns : goal.returns
returns c =
    let J = c.args.closed.now.history.entries in let done = c.count_done-done.result in
    let verdict = verdict_text c.args.graph.now.names c.args.closed.now.waits in
    let text : ℕ → ℕ → ℕ → List ℕ = λ all done other. codes "load " ++ decimal c.args.number ++ codes " entries " ++ decimal all ++ codes " done " ++ decimal done ++ codes " other " ++ decimal other ++ codes " " in
    let before : IfOk c.and-4.result (λ line. line.items ≡ text c.len-2.result done (c.len.result - done)) =
    c.and-4.ensures _ (c.and_number-line-4.ensures _ (c.and-3.ensures _ (c.and_number-line-3.ensures _ (c.and-2.ensures _ (c.and_number-line-2.ensures _ (c.and.ensures _ (c.and_number-line.ensures _ c.line.ensures))))))) in
    let line : c.in_ok-line.line.items ≡ text c.len-2.result done (c.len.result - done) = subst (λ r. IfOk r (λ line. line.items ≡ text c.len-2.result done (c.len.result - done))) c.in_ok-line.was before in
    let all = c.len.ensures.len in let too = c.len-2.ensures.len in let counted = c.count_done-done.ensures.others in
    let other : c.len.result - done ≡ count_other J = omega (arith, all, counted) in
    let of : List ℕ → Type 0 = λ words. IfOk c.and-5.result (λ line. line.items ≡ words ++ codes "\n") in
    let told : of (text c.len-2.result done (c.len.result - done) ++ verdict) = subst of (c.in_ok-write_verdict.ensures.added ∙ ap (λ words. words ++ verdict) line) (c.and-5.ensures _ refl) in
    subst (λ (done : ℕ). of (text (length J) done (count_other J) ++ verdict)) c.count_done-done.ensures.done
    (subst (λ (other : ℕ). of (text (length J) done other ++ verdict)) other (subst (λ (all : ℕ). of (text all done (c.len.result - done) ++ verdict)) too told))
