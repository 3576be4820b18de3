-- Which sessions are accepted.
use Rattle.std.specs.Prelude.{◌≤◌, ℕ, List, length, sum_by}
use Rattle.std.specs.List.{All}
use Rattle.dcr_journal.specs.Run.{IsInRange}
use Rattle.dcr_journal.specs.declared.call.Call.{Call}
use Rattle.dcr_format.specs.declared.limits.TheConstants.{MAX_SESSIONS, MAX_CALLS}

-- sessions within the limits, whose calls are ones of so many sites and atoms
pub record IsAcceptedSessions (sites atoms : ℕ) (sessions : List (List Call)) : Type 0 where
  pub most_sessions : length sessions ≤ MAX_SESSIONS
  pub most_calls : sum_by length sessions ≤ MAX_CALLS
  pub in_range : All (λ (calls : List Call). All (IsInRange sites atoms) calls) sessions
