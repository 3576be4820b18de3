-- Runs: the marking after a list of entries, which lists are runs of the graph, and the run that sessions have
-- when they go one after the other.
use Rattle.std.specs.Prelude.{◌≡◌, ◌⊎◌, ℕ, ◌+◌, ◌<◌, Bool, false, List, [], ◌∷◌, ◌++◌, ◌==◌, length, map, filter, fold, take, count_by, slice_get, Some, None, Option}
use Rattle.std.specs.List.{All}
use Rattle.std.specs.Option.{option_map_or}
use Rattle.dcr_set.specs.EventSet.{Set}
use Rattle.dcr_graph.specs.Rules.{Rules}
use Rattle.dcr_graph.specs.Step.{step}
use Rattle.dcr_graph.specs.Projection.{project}
use Rattle.dcr_graph.specs.declared.marking.Marking.{Marking}
use Rattle.dcr_graph.specs.declared.marking.SiteMark.{SiteMark}
use Rattle.dcr_journal.specs.Answer.{answer}
use Rattle.dcr_journal.specs.declared.call.Call.{Call}
use Rattle.dcr_journal.specs.declared.call.Call.TheVariants.{Exec, Look, Enabled, Accepting}
use Rattle.dcr_journal.specs.declared.call.Outcome.{Outcome}
use Rattle.dcr_journal.specs.declared.call.Outcome.TheVariants.{Done, Faulted}
use Rattle.dcr_journal.specs.declared.call.Entry.{Entry}

-- the event, where the call with this outcome is an execution that was done
abbrev pub event_done : Call → Outcome → Option ℕ
event_done (Exec i e) Done = Some e
event_done call outcome = None

-- the marking after a call with its outcome: an execution that was done steps it, nothing else does
abbrev pub stepped_by : Rules → Marking → Call → Outcome → Marking
stepped_by G M call outcome = option_map_or (step G M) (event_done call outcome) M

-- the marking after the entries J, from M
abbrev pub after : Rules → Marking → List Entry → Marking
after G M J = fold (λ N (entry : Entry). stepped_by G N entry.call entry.outcome) M J

-- how many entries a session has in J
abbrev pub made_by : ℕ → List Entry → ℕ
made_by session J = count_by (λ (entry : Entry). entry.session == session) J

-- the calls of a session in J, in order
abbrev pub calls_of : ℕ → List Entry → List Call
calls_of session J = map (λ (entry : Entry). entry.call) (filter (λ (entry : Entry). entry.session == session) J)

-- how many executions that were done are of an event of the alphabet
abbrev pub touches : (ℕ → Bool) → List Entry → ℕ
touches alphabet J = count_by (λ (entry : Entry). option_map_or alphabet (event_done entry.call entry.outcome) false) J

-- the site and the event of a call are a site and an atom
abbrev pub IsInRange : ℕ → ℕ → Call → Type 0
IsInRange sites atoms (Exec i e) = (i < sites) × (e < atoms)
IsInRange sites atoms (Look i) = i < sites
IsInRange sites atoms (Enabled i) = i < sites
IsInRange sites atoms Accepting = Unit {0}

-- an execution that could have been done, and failed: the run ends with it
pub record IsLastFault (G : Rules) (C : List Set) (M : Marking) (J : List Entry) (place : ℕ) (entry : Entry) : Type 0 where
  pub outcome : entry.outcome ≡ Faulted
  pub possible : answer G C (after G M (take place J)) entry.call ≡ Done
  pub last : place + 1 ≡ length J

-- the entry at a place: its numbers are in range, its seq counts its session's entries before it, and its outcome
-- is the answer after the entries before it, or it is the last and a fault
pub record IsLegalAt (G : Rules) (C : List Set) (M : Marking) (J : List Entry) (place : ℕ) (entry : Entry) : Type 0 where
  pub in_range : IsInRange (length C) G.atoms entry.call
  pub seq : entry.seq ≡ made_by entry.session (take place J)
  pub outcome : (entry.outcome ≡ answer G C (after G M (take place J)) entry.call) ⊎ IsLastFault G C M J place entry

-- J is a run of the graph from M
abbrev pub IsLegal : Rules → List Set → Marking → List Entry → Type 0
IsLegal G C M J = (place : ℕ) (entry : Entry) → slice_get J place ≡ Some entry → IsLegalAt G C M J place entry

-- no entry of J is a fault
abbrev pub HasNoFault : List Entry → Type 0
HasNoFault J = All (λ (entry : Entry). entry.outcome ≡ Faulted → ⊥) J

-- J is a run of the graph from M that may go on: nothing failed in it
pub record IsSound (G : Rules) (C : List Set) (M : Marking) (J : List Entry) : Type 0 where
  pub legal : IsLegal G C M J
  pub no_fault : HasNoFault J

-- each call with the number of its session, the sessions one after the other from this number on
abbrev pub numbered : ℕ → List (List Call) → List (ℕ × Call)
numbered session [] = []
numbered session (calls ∷ sessions) = map (λ call. (session, call)) calls ++ numbered (session + 1) sessions

-- the entries with one call more, answered after them
abbrev pub told_next : Rules → List Set → Marking → List Entry → ℕ × Call → List Entry
told_next G C M J asked = J ++ record {
  session = asked.0;
  seq = made_by asked.0 J;
  call = asked.1;
  outcome = answer G C (after G M J) asked.1;
} ∷ []

-- the run of the sessions, one after the other in order
abbrev pub told : Rules → List Set → Marking → List (List Call) → List Entry
told G C M sessions = fold (told_next G C M) [] (numbered 0 sessions)

-- the marks of the sites with these owned sets
abbrev pub marks_at : Rules → List Set → Marking → List SiteMark
marks_at G C M = map (λ S. project G S M) C
