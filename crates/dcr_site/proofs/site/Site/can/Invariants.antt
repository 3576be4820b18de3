use Rattle.std.proofs.Common.{◌≡◌, ◌<◌, List, Bool, length}
use Rattle.std.specs.List.{All}
use Rattle.dcr_graph.specs.Rules.{Rules}
use Rattle.dcr_graph.specs.Cause.{is_enabled_in}
use Rattle.dcr_graph.specs.declared.marking.Marking.{Marking}
use Rattle.dcr_site.specs.Seen.{StandsAt}
use Rattle.dcr_graph.proofs.GatheredLemmas.{Gathers}
use Rattle.dcr_site.proofs.site.Site.can.Given as goal

abbrev pub invariant-loop-e : goal.invariant-loop-e
invariant-loop-e l = record {
  room : length l.can ≡ length l.self.projection.own;
  owned : All (λ e. e < length l.self.projection.own) l.e-iterator;
  enabled : (G : Rules) (S : List Bool) (M : Marking) → StandsAt G S M l.self → Gathers G.atoms (is_enabled_in G S M) l.can l.e-iterator;
}
