-- The sites of a run as contracts see them, and what it means that they took in an execution.
use Rattle.std.specs.Prelude.{◌≡◌, ℕ, ◌<◌, List, length, slice_get, Some}
use Rattle.dcr_set.specs.EventSet.{Set}
use Rattle.dcr_graph.specs.Rules.{Rules}
use Rattle.dcr_graph.specs.Step.{step}
use Rattle.dcr_graph.specs.declared.marking.Marking.{Marking}
use Rattle.dcr_site.specs.Seen.{Seen, StandsAt}
use Rattle.dcr_site.specs.Together.{AreOver}

pub record Engine : Type 0 where
  pub atoms : ℕ
  pub sites : List Seen

-- each projection is one over atoms of which the event is one
abbrev pub AreOverMore : ℕ → List Seen → Type 0
AreOverMore e sites = (atoms : ℕ) × (e < atoms) × AreOver atoms sites

-- the site took in an execution: where it stood at a marking, it stands at the stepped one
pub record Heard (e : ℕ) (before after : Seen) : Type 0 where
  pub projection : after.projection ≡ before.projection
  pub stepped : (G : Rules) (S : Set) (M : Marking) → StandsAt G S M before → StandsAt G S (step G M e) after

pub record HeardEach (e : ℕ) (before after : List Seen) : Type 0 where
  pub as_many : length after ≡ length before
  pub each : (i : ℕ) (site : Seen) → slice_get after i ≡ Some site → (old : Seen) × (slice_get before i ≡ Some old) × Heard e old site
