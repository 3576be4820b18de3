use Rattle.std.proofs.Common.{◌≡◌, ◌<◌, true, cond, Some, None, sym, ap, subst, ◌∙◌, arith}
use Rattle.dcr_site.specs.Seen.{StandsAt}
use Rattle.dcr_wire.specs.declared.message.Message.TheVariants.{Vote}
use Rattle.dcr_node.specs.SiteState.{SiteState, decision_at, is_ready}
use Rattle.dcr_node.proofs.SiteNodeLemmas.{decides_by_marks}
use Rattle.dcr_node.proofs.site_node.SiteNode.vote.Goals as goal

pub returns : goal.returns
returns c = λ G S M at.
    let node = c.args.self.now in
    let here : StandsAt G S M c.self.inside.site = subst (λ (n : SiteState). StandsAt G S M n.site) (sym c.self.view_is) at in
    let below : c.args.event < G.atoms = (let atoms = c.atoms-atoms.ensures.stands G S M here in let is = c.event.view_is in omega arith) in
    let ready : is_ready node c.args.site c.args.count ≡ true = sym c.is_for.ensures ∙ c.if-not-is_for.false in
    ap (λ d. Some (Vote c.args.number c.args.site d))
    (c.decide-decision.ensures G S M here
    ∙ decides_by_marks G S M c.self.inside.site c.args.event here below
    ∙ ap (λ (n : SiteState). decision_at G S n.site.mark c.args.event) c.self.view_is)
    ∙ ap (λ b. cond b (Some (Vote c.args.number c.args.site (decision_at G S node.site.mark c.args.event))) None) (sym ready)
