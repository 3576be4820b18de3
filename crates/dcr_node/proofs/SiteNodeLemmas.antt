-- What a site node does is what the machine does, where its site stands at a marking.
use Rattle.std.proofs.Common.{◌≡◌, ℕ, ◌<◌, sym, ap, ◌∙◌}
use Rattle.dcr_set.specs.EventSet.{Set}
use Rattle.dcr_graph.specs.Cause.{enabled_in}
use Rattle.dcr_graph.specs.Rules.{Rules}
use Rattle.dcr_graph.specs.Step.{step}
use Rattle.dcr_graph.specs.Projection.{local_step}
use Rattle.dcr_graph.specs.declared.marking.Marking.{Marking}
use Rattle.dcr_graph.specs.declared.marking.SiteMark.{SiteMark}
use Rattle.dcr_graph.proofs.LocalLaws.{local_step_is}
use Rattle.dcr_proj.specs.Local.{Local}
use Rattle.dcr_laws.specs.AtSites.{enabled_at, waits_at}
use Rattle.dcr_laws.proofs.SitesRunLemmas.{enabled_at-project}
use Rattle.dcr_laws.proofs.WaitsLemmas.{waits_at-project}
use Rattle.dcr_site.specs.Decision.{decision, owned_waits}
use Rattle.dcr_site.specs.Seen.{Seen, StandsAt}
use Rattle.dcr_node.specs.SiteState.{decision_at}
use Rattle.dcr_node.proofs.TruthLemmas.{decided_by_projection}

-- the graph's decision is the one by the site's marks
pub decides_by_marks : (G : Rules) (S : Set) (M : Marking) (site : Seen) (e : ℕ) → StandsAt G S M site → e < G.atoms → decision G S M e ≡ decision_at G S site.mark e
decides_by_marks G S M site e at below = sym (ap (λ m. decision_at G S m e) at.mark ∙ decided_by_projection G S M e below)

-- a site that took in an event has the marks of the local step
pub steps_by_marks : (G : Rules) (S : Set) (M : Marking) (before after : Seen) (e : ℕ) → StandsAt G S M before → after.projection ≡ before.projection → StandsAt G S (step G M e) after
    → (let site : Seen = record { projection = before.projection; mark = local_step G S before.mark e } in after ≡ site)
steps_by_marks G S M before after e at same stepped =
    ap (λ (P : Local). let site : Seen = record { projection = P; mark = after.mark } in site) same
    ∙ ap (λ (m : SiteMark). let site : Seen = record { projection = before.projection; mark = m } in site)
    (stepped.mark ∙ sym (local_step_is G S M e) ∙ ap (λ m. local_step G S m e) (sym at.mark))

-- ---- what a site tells by its marks is the graph's

pub can_by_marks : (G : Rules) (S : Set) (M : Marking) (site : Seen) → StandsAt G S M site → enabled_in G S M ≡ enabled_at G S site.mark
can_by_marks G S M site at = sym (ap (λ m. enabled_at G S m) at.mark ∙ enabled_at-project G S M)

pub waits_by_marks : (G : Rules) (S : Set) (M : Marking) (site : Seen) → StandsAt G S M site → owned_waits G S M ≡ waits_at G.atoms S site.mark
waits_by_marks G S M site at = sym (ap (λ m. waits_at G.atoms S m) at.mark ∙ waits_at-project G S M)
