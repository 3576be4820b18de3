use Rattle.std.proofs.Common.{◌≡◌, ◌++◌, ◌∙◌, ℕ, List, IfOk, subst}
use Rattle.dcr_app.proofs.lines.and_name.Goals as goal

pub returns : goal.returns
returns c = λ text is.
    subst (λ (name : List ℕ). IfOk c.and.result (λ line. line.items ≡ text ++ name)) (c.as_bytes.ensures.value ∙ c.text.ensures.text) (c.and.ensures text is)
