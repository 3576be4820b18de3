use Rattle.std.proofs.Common.{◌≡◌, List, Bool, length, sym, subst}
use Rattle.std.specs.Prelude.{IsTrue}
use Rattle.dcr_graph.specs.Cause.{enabled_in}
use Rattle.dcr_graph.specs.Rules.{Rules}
use Rattle.dcr_graph.specs.declared.marking.Marking.{Marking}
use Rattle.dcr_site.specs.Decision.{owned_waits}
use Rattle.dcr_site.specs.Seen.{StandsAt}
use Rattle.dcr_site.specs.SiteModel.{seen_of, HasMarks}
use Rattle.dcr_site.specs.declared.site.Site.TheInside.{Inside}
use Rattle.dcr_site.proofs.site.Site.waits_again.Goals.{then-not-self, else-not-self}
use Rattle.dcr_site.proofs.site.Site.waits_again.Goals as goal

-- what was found holds of these fields
abbrev Knows : Inside → Type 0
Knows s = HasMarks s × (IsTrue s.knows_waits → (G : Rules) (S : List Bool) (M : Marking) → StandsAt G S M (seen_of s) → s.waits ≡ owned_waits G S M)
    × (length s.can ≡ length s.projection.own)
    × (IsTrue s.knows_can → (G : Rules) (S : List Bool) (M : Marking) → StandsAt G S M (seen_of s) → s.can ≡ enabled_in G S M)

pub invariant_of-self : goal.invariant_of-self
invariant_of-self c = elim c.if-not-self.branch [
  | then-not-self w ↦ subst Knows (sym w.self-inside-is)
      (c.self.invariant.0, λ known G S M at. w.first_waiting-self-inside.ensures G S M (subst (StandsAt G S M) c.self.view_is at), c.self.invariant.2, c.self.invariant.3)
  | else-not-self w ↦ subst Knows (sym w.self-inside-is) c.self.invariant
]
