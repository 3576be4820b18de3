use Rattle.std.proofs.Common.{◌≡◌, true, cond, Some, None, sym, ap, ◌∙◌}
use Rattle.dcr_node.specs.SiteState.{answer_at, is_ready}
use Rattle.dcr_wire.specs.declared.answer.Answer.{Answer}
use Rattle.dcr_node.proofs.site_node.SiteNode.answer.Goals as goal

pub returns : goal.returns
returns c = λ G S M at.
    let node = c.args.self.now in
    let q = c.args.question.now in
    let ready : is_ready node q.site q.count ≡ true = sym c.is_for.ensures ∙ c.if-not-is_for.false in
    ap (λ t. let a : Answer = record { number = q.number; site = q.site; told = t } in Some a) (c.tell.ensures G S M at)
    ∙ ap (λ b. cond b (Some (answer_at G S node q)) None) (sym ready)
