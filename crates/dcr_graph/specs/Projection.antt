-- The projection of a graph and of a marking to an owned set: which marks a site tracks, and which rules it keeps.
use Rattle.std.specs.Prelude.{◌≡◌, ℕ, Bool, ◌&&◌, ◌||◌, ◌==◌, length}
use Rattle.dcr_set.specs.Least.{some_below}
use Rattle.dcr_set.specs.EventSet.{Set, has, those}
use Rattle.dcr_graph.specs.Rules.{Rules}
use Rattle.dcr_graph.specs.Step.{pending_after, included_after}
use Rattle.dcr_graph.specs.declared.kind.Kind.{Kind}
use Rattle.dcr_graph.specs.declared.kind.Kind.TheVariants.{Condition, Response, Milestone, Include, Exclude, Cancel}
use Rattle.dcr_graph.specs.declared.marking.Marking.{Marking}
use Rattle.dcr_graph.specs.declared.marking.SiteMark.{SiteMark}

-- a is related by the kind to an atom that passes
abbrev pub leads_to : Rules → Kind → (ℕ → Bool) → ℕ → Bool
leads_to G kind p a = some_below G.atoms (λ b. p b && G.related kind a b)

-- a is a condition event, a milestone event, of an owned atom
abbrev pub is_condition_source : Rules → Set → ℕ → Bool
is_condition_source G S a = leads_to G Condition (has S) a

abbrev pub is_milestone_source : Rules → Set → ℕ → Bool
is_milestone_source G S a = leads_to G Milestone (has S) a

-- the atoms whose included, executed, pending mark the site tracks
abbrev pub tracks_included : Rules → Set → ℕ → Bool
tracks_included G S k = has S k || (is_condition_source G S k || is_milestone_source G S k)

abbrev pub tracks_executed : Rules → Set → ℕ → Bool
tracks_executed G S k = has S k || is_condition_source G S k

abbrev pub tracks_pending : Rules → Set → ℕ → Bool
tracks_pending G S k = has S k || is_milestone_source G S k

-- the atoms whose execution the site must hear of: those that it tracks, and those that may change a mark that it tracks
abbrev pub in_alphabet : Rules → Set → ℕ → Bool
in_alphabet G S a =
    tracks_included G S a
    || ((leads_to G Response (tracks_pending G S) a || leads_to G Cancel (tracks_pending G S) a)
    || (leads_to G Include (tracks_included G S) a || leads_to G Exclude (tracks_included G S) a))

-- which targets of a kind the local relations have: conditions and milestones into owned atoms, responses and
-- cancels into pending marks that are tracked, includes and excludes into included marks that are tracked
abbrev pub is_local_target : Rules → Set → Kind → ℕ → Bool
is_local_target G S Condition b = has S b
is_local_target G S Milestone b = has S b
is_local_target G S Response b = tracks_pending G S b
is_local_target G S Cancel b = tracks_pending G S b
is_local_target G S Include b = tracks_included G S b
is_local_target G S Exclude b = tracks_included G S b

-- the local relations
abbrev pub local_rules : Rules → Set → Rules
local_rules G S = record { atoms = G.atoms; related = λ kind a b. G.related kind a b && is_local_target G S kind b }

-- the marks that the site has at a marking
abbrev pub project : Rules → Set → Marking → SiteMark
project G S M = record {
  executed = those G.atoms (λ k. has M.executed k && tracks_executed G S k);
  pending = those G.atoms (λ k. has M.pending k && tracks_pending G S k);
  included = those G.atoms (λ k. has M.included k && tracks_included G S k);
}

-- a site's marks read as a marking
abbrev pub as_marking : SiteMark → Marking
as_marking m = record { executed = m.executed; pending = m.pending; included = m.included }

-- the local step: the step over the local relations, where e is executed only where that is tracked
abbrev pub local_step : Rules → Set → SiteMark → ℕ → SiteMark
local_step G S m e = record {
  executed = those G.atoms (λ k. ((k == e) && tracks_executed G S k) || has m.executed k);
  pending = those G.atoms (pending_after (local_rules G S) (as_marking m) e);
  included = those G.atoms (included_after (local_rules G S) (as_marking m) e);
}

-- three sets over so many atoms, as those of a marking and of a site's marks are: each has that room
pub record FitsAtoms (atoms : ℕ) (Ex Re In : Set) : Type 0 where
  pub executed : length Ex ≡ atoms
  pub pending : length Re ≡ atoms
  pub included : length In ≡ atoms

-- a marking over n atoms
abbrev pub HasRoom : ℕ → Marking → Type 0
HasRoom n M = FitsAtoms n M.executed M.pending M.included
