-- What is heard of a list of entries: the executions that were done, and of them those of an alphabet.
use Rattle.std.specs.Prelude.{ℕ, Bool, List, filter, fold}
use Rattle.std.specs.List.{filter_map}
use Rattle.dcr_graph.specs.Rules.{Rules}
use Rattle.dcr_graph.specs.Step.{step}
use Rattle.dcr_graph.specs.declared.marking.Marking.{Marking}
use Rattle.dcr_journal.specs.Run.{event_done}
use Rattle.dcr_journal.specs.declared.call.Entry.{Entry}

-- the events of the executions that were done, in order
abbrev pub done_events : List Entry → List ℕ
done_events J = filter_map (λ (entry : Entry). event_done entry.call entry.outcome) J

-- those of them that are of the alphabet
abbrev pub heard : (ℕ → Bool) → List Entry → List ℕ
heard alphabet J = filter alphabet (done_events J)

-- the marking stepped by events, one after the other
abbrev pub stepped_by_all : Rules → Marking → List ℕ → Marking
stepped_by_all G M events = fold (step G) M events
