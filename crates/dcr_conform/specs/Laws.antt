-- Each trace has one answer.
use Rattle.std.specs.Prelude.{◌≡◌, ℕ, List}
use Rattle.dcr_graph.specs.GraphValue.{Flat}
use Rattle.dcr_graph.specs.declared.marking.Marking.{Marking}
use Rattle.dcr_conform.specs.Judge.{IsJudged}
use Rattle.dcr_conform.specs.declared.judged.Judged.{Judged}

-- some answer is one, whatever the graph, the marking and the texts
abbrev pub EachTraceHasAnAnswer : Type 0
EachTraceHasAnAnswer = (graph : Flat) (M : Marking) (texts : List (List ℕ)) → (answer : Judged) × IsJudged graph M texts answer

-- and no other is
abbrev pub NoTraceHasTwo : Type 0
NoTraceHasTwo = (graph : Flat) (M : Marking) (texts : List (List ℕ)) (a b : Judged) → IsJudged graph M texts a → IsJudged graph M texts b → a ≡ b
