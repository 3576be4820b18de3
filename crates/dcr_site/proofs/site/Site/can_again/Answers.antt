use Rattle.std.proofs.Common.{ap, sym, subst, ◌∙◌}
use Rattle.dcr_site.specs.Seen.{StandsAt}
use Rattle.dcr_site.proofs.site.Site.can_again.Goals.{then-not-self, else-not-self}
use Rattle.dcr_site.proofs.site.Site.can_again.Goals as goal

pub returns-clause-enabled : goal.returns-clause-enabled
returns-clause-enabled c = λ G S M at.
    c.copy.ensures ∙ elim c.if-not-self.branch [
      | then-not-self w ↦ ap (λ s. s.can) w.self-inside-is ∙ w.can-self-inside.ensures.enabled G S M at
      | else-not-self w ↦ ap (λ s. s.can) w.self-inside-is ∙ c.self.invariant.3 w.if-not-self.false G S M (subst (StandsAt G S M) (sym c.self.view_is) at)
    ]
