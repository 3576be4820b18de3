use Rattle.std.proofs.Common.{sym, ap, subst, ◌∙◌}
use Rattle.dcr_laws.specs.AtSites.{enabled_at, waits_at}
use Rattle.dcr_site.specs.Seen.{StandsAt}
use Rattle.dcr_wire.specs.declared.answer.Told.TheVariants.{Can, Waits}
use Rattle.dcr_node.specs.SiteState.{SiteState, told_at}
use Rattle.dcr_node.proofs.SiteNodeLemmas.{can_by_marks, waits_by_marks}
use Rattle.dcr_node.proofs.site_node.SiteNode.tell.Goals as goal

pub returns-in-Can : goal.returns-in-Can
returns-in-Can c = λ G S M at.
    let here : StandsAt G S M c.self.inside.site = subst (λ (n : SiteState). StandsAt G S M n.site) (sym c.self.view_is) at in
    ap (λ s. Can s) (c.can.ensures.enabled G S M here ∙ can_by_marks G S M c.self.inside.site here ∙ ap (λ (n : SiteState). enabled_at G S n.site.mark) c.self.view_is)
    ∙ ap (told_at G S c.args.self.now.site.mark) (sym c.in-Can.is)

pub returns-in-Waits : goal.returns-in-Waits
returns-in-Waits c = λ G S M at.
    let here : StandsAt G S M c.self.inside.site = subst (λ (n : SiteState). StandsAt G S M n.site) (sym c.self.view_is) at in
    ap (λ o. Waits o) (c.first_waiting.ensures G S M here ∙ waits_by_marks G S M c.self.inside.site here ∙ ap (λ (n : SiteState). waits_at G.atoms S n.site.mark) c.self.view_is)
    ∙ ap (told_at G S c.args.self.now.site.mark) (sym c.in-Waits.is)
