use Rattle.std.proofs.Common.{◌≡◌, true, sym, subst}
use Rattle.dcr_set.specs.EventSet.{has}
use Rattle.dcr_site.specs.Seen.{StandsAt}
use Rattle.dcr_site.specs.SiteModel.{seen_of}
use Rattle.dcr_site.proofs.SiteLemmas.{stepped_by_masks}
use Rattle.dcr_site.proofs.site.Site.apply.Goals as goal

pub returns-clause-stepped : goal.returns-clause-stepped
returns-clause-stepped c = λ G S M at.
    stepped_by_masks G S M (seen_of c.self.inside) (subst (StandsAt G S M) (sym c.self.view_is) at) c.args.e c.apply.ensures.marks.0 c.apply.new.mark
    (subst (λ s. has s.projection.alphabet c.args.e ≡ true) (sym c.self.view_is) c.requires) c.apply.ensures.marks.1 c.apply.ensures.marks.2
