-- The laws that make local decisions global ones.
use Rattle.std.specs.Prelude.{◌≡◌, ℕ, ◌<◌, true, false, List, [], ◌∷◌, ◌++◌, length, map, slice_index_or, None}
use Rattle.std.specs.List.{All}
use Rattle.dcr_set.specs.EventSet.{Set, has}
use Rattle.dcr_graph.specs.Rules.{Rules}
use Rattle.dcr_graph.specs.Rows.{row}
use Rattle.dcr_graph.specs.Cause.{cause, waits}
use Rattle.dcr_graph.specs.Step.{step}
use Rattle.dcr_graph.specs.Projection.{in_alphabet, project, local_step, HasRoom}
use Rattle.dcr_graph.specs.declared.marking.Marking.{Marking}
use Rattle.dcr_journal.specs.Run.{IsInRange, IsSound, after, calls_of, touches, told, marks_at}
use Rattle.dcr_journal.specs.declared.call.Call.{Call}
use Rattle.dcr_journal.specs.declared.call.Call.TheVariants.{Exec}
use Rattle.dcr_journal.specs.declared.call.Outcome.TheVariants.{Done}
use Rattle.dcr_journal.specs.declared.call.Entry.{Entry}
use Rattle.dcr_proj.specs.CoverValue.{IsCovered}
use Rattle.dcr_proj.specs.Local.{projection_of}
use Rattle.dcr_laws.specs.AtSites.{cause_at, waits_over}
use Rattle.dcr_laws.specs.SitesRun.{run_of_sites, run_of_graph}

-- for an owned atom the cause at the site, by the projection of M, is the cause of the graph at M
abbrev pub LocalCauseIsTheCause : Type 0
LocalCauseIsTheCause = (G : Rules) (S : Set) (M : Marking) (e : ℕ) → e < G.atoms → has S e ≡ true → cause_at G S (project G S M) e ≡ cause G M e

-- the local step of the projection is the projection of the step, for each event of the alphabet (and any other)
abbrev pub LocalStepIsTheStep : Type 0
LocalStepIsTheStep = (G : Rules) (S : Set) (M : Marking) (e : ℕ) → local_step G S (project G S M) e ≡ project G S (step G M e)

-- an event outside the alphabet changes nothing in the projection
abbrev pub OutsideNothingChanges : Type 0
OutsideNothingChanges = (G : Rules) (S : Set) (M : Marking) (e : ℕ) → in_alphabet G S e ≡ false → project G S (step G M e) ≡ project G S M

-- what the graph waits for at M is the least of what the sites of a cover wait for, each by its own projection of M
abbrev pub SitesWaitAsTheGraph : Type 0
SitesWaitAsTheGraph = (G : Rules) (C : List Set) (M : Marking) → IsCovered G.atoms C → waits_over G.atoms C (marks_at G C M) ≡ waits G.atoms M

-- where no execution in the rest is of the alphabet, the projection after a list of entries is that after its beginning
abbrev pub UntouchedMarksStay : Type 0
UntouchedMarksStay = (G : Rules) (S : Set) (M : Marking) (beginning rest : List Entry)
    → touches (in_alphabet G S) beginning ≡ touches (in_alphabet G S) (beginning ++ rest)
    → project G S (after G M beginning) ≡ project G S (after G M (beginning ++ rest))

-- the same for the alphabet as a set, as a site's projection has it, where the calls of the rest are in range
abbrev pub UntouchedByTheSet : Type 0
UntouchedByTheSet = (G : Rules) (S : Set) (M : Marking) (sites : ℕ) (beginning rest : List Entry)
    → All (λ (entry : Entry). IsInRange sites G.atoms entry.call) rest
    → touches (has (projection_of G S).alphabet) beginning ≡ touches (has (projection_of G S).alphabet) (beginning ++ rest)
    → project G S (after G M beginning) ≡ project G S (after G M (beginning ++ rest))

-- the run of the sites of a cover is the run of the graph: the same entries, and the marks after them are projections
abbrev pub SitesRunAsTheGraph : Type 0
SitesRunAsTheGraph = (G : Rules) (C : List Set) (M : Marking) (asked : List (ℕ × Call)) → IsCovered G.atoms C
    → All (λ (a : ℕ × Call). IsInRange (length C) G.atoms a.1) asked → run_of_sites G C M asked ≡ run_of_graph G C M asked

-- the told run has the calls of each session, in order, and no entry of another session
abbrev pub ToldHasEachCall : Type 0
ToldHasEachCall = (G : Rules) (C : List Set) (M : Marking) (sessions : List (List Call)) (k : ℕ) → calls_of k (told G C M sessions) ≡ slice_index_or sessions k []

abbrev pub ToldHasNoOtherSession : Type 0
ToldHasNoOtherSession = (G : Rules) (C : List Set) (M : Marking) (sessions : List (List Call)) → All (λ (entry : Entry). entry.session < length sessions) (told G C M sessions)

-- where the calls are in range the told run is a run of the graph in which nothing failed
abbrev pub ToldIsSound : Type 0
ToldIsSound = (G : Rules) (C : List Set) (M : Marking) (sessions : List (List Call)) → All (λ calls. All (IsInRange (length C) G.atoms) calls) sessions
    → IsSound G C M (told G C M sessions)

-- the events can be executed one after the other from M: the first has no cause at M, and so on from the marking stepped by it
abbrev pub IsRun : Rules → Marking → List ℕ → Type 0
IsRun G M [] = Unit {0}
IsRun G M (event ∷ events) = (cause G M event ≡ None) × IsRun G (step G M event) events

-- executions, each a site and an event, that spell a list of events: they are these events, each at a site that owns it
pub record Spell (C : List Set) (run : List ℕ) (executions : List (ℕ × ℕ)) : Type 0 where
  pub events : map (λ (x : ℕ × ℕ). x.1) executions ≡ run
  pub owned : All (λ (x : ℕ × ℕ). has (row C x.0) x.1 ≡ true) executions

-- the calls of executions
abbrev pub calls_for : List (ℕ × ℕ) → List Call
calls_for executions = map (λ (x : ℕ × ℕ). Exec x.0 x.1) executions

-- a single session that spells a run is answered done at every call
abbrev pub ARunIsDone : Type 0
ARunIsDone = (G : Rules) (C : List Set) (M : Marking) (events : List ℕ) (executions : List (ℕ × ℕ)) → IsRun G M events → Spell C events executions
    → All (λ (entry : Entry). entry.outcome ≡ Done) (told G C M (calls_for executions ∷ []))

-- the events of a run from a marking with the graph's room are atoms
abbrev pub ARunIsOfAtoms : Type 0
ARunIsOfAtoms = (G : Rules) (M : Marking) (events : List ℕ) → HasRoom G.atoms M → IsRun G M events → All (λ e. e < G.atoms) events

-- where the owned sets cover the atoms, each run from a marking with the graph's room is spelled by some executions, each a site and an atom that there are
abbrev pub EachRunIsSpelled : Type 0
EachRunIsSpelled = (G : Rules) (C : List Set) (M : Marking) (events : List ℕ) → IsCovered G.atoms C → HasRoom G.atoms M → IsRun G M events
    → (executions : List (ℕ × ℕ)) × Spell C events executions × All (IsInRange (length C) G.atoms) (calls_for executions)
