use Rattle.std.proofs.Common.{ap, sym, subst, ◌∙◌, length}
use Rattle.dcr_site.specs.Seen.{StandsAt}
use Rattle.dcr_site.specs.SiteModel.{seen_of}
use Rattle.dcr_site.proofs.SiteLemmas.{atoms_are}
use Rattle.dcr_site.proofs.site.Site.atoms.Goals as goal

pub returns-clause-stands : goal.returns-clause-stands
returns-clause-stands c = λ G S M at.
    c.room.ensures.room ∙ ap (λ s. length s) c.own.ensures.own
    ∙ atoms_are G S M (seen_of c.self.inside) (subst (StandsAt G S M) (sym c.self.view_is) at) 0 c.own.ensures.rooms.tracked_in
