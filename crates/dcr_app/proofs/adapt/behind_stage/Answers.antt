use Rattle.std.proofs.Common.{◌≡◌, ◌++◌, ◌∙◌, ℕ, List, IfOk, codes, decimal, subst}
use Rattle.dcr_app.proofs.adapt.behind_stage.Goals as goal

pub returns : goal.returns
returns c = λ text is.
    let items : c.in_ok-more.more.items ≡ text = subst (λ r. IfOk r (λ line. line.items ≡ text)) c.in_ok-more.was is in
    subst (λ (t : List ℕ). IfOk c.and-2.result (λ line. line.items ≡ codes "case " ++ decimal c.args.i ++ codes " " ++ t)) (c.deref.ensures.value ∙ items)
    (c.and-2.ensures _ (c.and.ensures _ (c.and_number.ensures _ c.line.ensures)))
