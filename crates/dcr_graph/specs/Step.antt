-- What an execution does to a marking.
use Rattle.std.specs.Prelude.{ℕ, Bool, not, ◌&&◌, ◌||◌, ◌==◌}
use Rattle.dcr_set.specs.EventSet.{has, those}
use Rattle.dcr_graph.specs.Rules.{Rules}
use Rattle.dcr_graph.specs.declared.kind.Kind.TheVariants.{Response, Include, Exclude, Cancel}
use Rattle.dcr_graph.specs.declared.marking.Marking.{Marking}

-- e is executed
abbrev pub executed_after : Rules → Marking → ℕ → ℕ → Bool
executed_after G M e k = (k == e) || has M.executed k

-- e is pending no longer, nor is what it cancels; then its responses are pending
abbrev pub pending_after : Rules → Marking → ℕ → ℕ → Bool
pending_after G M e k = ((has M.pending k && not (k == e)) && not (G.related Cancel e k)) || G.related Response e k

-- its includes are included, and then its excludes are not
abbrev pub included_after : Rules → Marking → ℕ → ℕ → Bool
included_after G M e k = (has M.included k || G.related Include e k) && not (G.related Exclude e k)

-- the marking stepped by e
abbrev pub step : Rules → Marking → ℕ → Marking
step G M e = record {
  executed = those G.atoms (executed_after G M e);
  pending = those G.atoms (pending_after G M e);
  included = those G.atoms (included_after G M e);
}
