use Rattle.std.proofs.Common.{ap, sym, subst, ◌∙◌}
use Rattle.dcr_set.specs.EventSet.{first_in_three}
use Rattle.dcr_site.specs.Seen.{StandsAt}
use Rattle.dcr_site.specs.SiteModel.{seen_of}
use Rattle.dcr_site.proofs.SiteLemmas.{waits_by_marks}
use Rattle.dcr_site.proofs.site.Site.first_waiting.Goals as goal

pub returns : goal.returns
returns c = λ G S M at.
    c.first_common_three.ensures ∙ ap (λ s. first_in_three s c.self.inside.mark.included c.self.inside.mark.pending) c.own.ensures.own
    ∙ waits_by_marks G S M (seen_of c.self.inside) (subst (StandsAt G S M) (sym c.self.view_is) at) c.own.ensures.rooms.tracked_in
