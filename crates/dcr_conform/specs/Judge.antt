-- How a trace is judged over a graph: its events are executed from a marking, one after the other, up to the first that is
-- unknown or that can't be.
use Rattle.std.specs.Prelude.{◌≡◌, ⊤, ℕ, ◌<◌, ◌≤◌, List, [], ◌∷◌, drop, fold, length, map, take, Option, Some, None, MatchOption}
use Rattle.std.specs.List.{AllZip}
use Rattle.dcr_graph.specs.Cause.{cause, waits}
use Rattle.dcr_graph.specs.GraphValue.{Flat, rules_of}
use Rattle.dcr_graph.specs.Names.{number_of}
use Rattle.dcr_graph.specs.Rules.{Rules}
use Rattle.dcr_graph.specs.Step.{step}
use Rattle.dcr_graph.specs.declared.kind.Cause.{Cause}
use Rattle.dcr_graph.specs.declared.marking.Marking.{Marking}
use Rattle.dcr_journal.specs.Answer.{outcome_of}
use Rattle.dcr_laws.specs.Laws.{IsRun}
use Rattle.dcr_line.specs.Fits.{FitsOutcome}
use Rattle.dcr_log.specs.declared.trace.Trace.{Trace}
use Rattle.dcr_conform.specs.declared.judged.Judged.{Judged}
use Rattle.dcr_conform.specs.declared.judged.Judged.TheVariants.{Unknown, Refused, Waits, Accepting}

-- M stepped by the events, one after the other
abbrev pub stepped : Rules → Marking → List ℕ → Marking
stepped G M events = fold (step G) M events

-- the texts are the names of atoms that can be executed one after the other from M
pub record IsExecuted (graph : Flat) (M : Marking) (texts : List (List ℕ)) : Type 0 where
  pub events : List ℕ
  pub named : map (number_of graph.names) texts ≡ map Some events
  pub run : IsRun (rules_of graph) M events

-- the answer where all of so many events were executed, and their marking waits for this atom, or for none
abbrev pub verdict_on : ℕ → Option ℕ → Judged
verdict_on count None = Accepting count
verdict_on count (Some a) = Waits a count

-- The answer where so many texts were executed, the marking after them is N, and these are left. Of none left: what N waits
-- for. Else the first of them is no atom's name, or that atom has a cause at N.
abbrev pub Ends : Flat → Marking → ℕ → List (List ℕ) → Judged → Type 0
Ends graph N done [] answer = answer ≡ verdict_on done (waits (length graph.names) N)
Ends graph N done (text ∷ rest) answer =
    MatchOption (number_of graph.names text) (answer ≡ Unknown done)
    (λ e. (why : Cause) × (cause (rules_of graph) N e ≡ Some why) × (answer ≡ Refused done why))

-- the texts are judged so from M: so many of them are executed, and it ends there
pub record IsJudged (graph : Flat) (M : Marking) (texts : List (List ℕ)) (answer : Judged) : Type 0 where
  pub done : ℕ
  pub within : done ≤ length texts
  pub executed : IsExecuted graph M (take done texts)
  pub ends : Ends graph (stepped (rules_of graph) M executed.events) done (drop done texts) answer

-- the traces are judged so, one by one
abbrev pub AreJudged : Flat → Marking → List Trace → List Judged → Type 0
AreJudged graph M traces answers = AllZip (λ (trace : Trace) answer. IsJudged graph M trace.events answer) traces answers

-- the atoms that an answer names are of the graph
abbrev pub FitsJudged : ℕ → Judged → Type 0
FitsJudged atoms (Unknown place) = ⊤
FitsJudged atoms (Refused place why) = FitsOutcome atoms (outcome_of (Some why))
FitsJudged atoms (Waits a count) = a < atoms
FitsJudged atoms (Accepting count) = ⊤
