-- What a site is told and asked, one after the other: the executions of its stream in order, and each question at the count of
-- those before it.
use Rattle.std.specs.Prelude.{◌≡◌, ℕ, ◌-◌, Bool, true, false, not, List, map, length, take, slice_get, slice_index_or, Some}
use Rattle.std.specs.List.{count_by, range_with_len}
use Rattle.dcr_set.specs.EventSet.{Set}
use Rattle.dcr_graph.specs.Rules.{Rules}
use Rattle.dcr_graph.specs.declared.marking.Marking.{Marking}
use Rattle.dcr_wire.specs.Laws.{Sent, sent_message, sent_question, sent_answer}
use Rattle.dcr_wire.specs.declared.message.Message.TheVariants.{Ask, Vote, Apply}
use Rattle.dcr_node.specs.JournalState.{JournalState, stream_of, withdrawn}
use Rattle.dcr_talk.specs.Truth.{AreTrue}

-- whether a site is told of an execution by it
abbrev pub is_execution : Sent → Bool
is_execution (sent_message (Ask number site event count)) = false
is_execution (sent_message (Vote number site decision)) = false
is_execution (sent_message (Apply site index event)) = true
is_execution (sent_question question) = false
is_execution (sent_answer answer) = false

-- of how many executions a site is told by these
abbrev pub executions_in : List Sent → ℕ
executions_in asked = count_by is_execution asked

-- and how many of them it is to answer
abbrev pub questions_in : List Sent → ℕ
questions_in asked = count_by (λ one. not (is_execution one)) asked

-- it is for the site that was told of so many executions: of the next one it is told, or it is asked at just this count
abbrev pub IsNext : ℕ → ℕ → Sent → Type 0
IsNext i told (sent_message (Ask number site event count)) = (site ≡ i) × (count ≡ told)
IsNext i told (sent_message (Vote number site decision)) = ⊥
IsNext i told (sent_message (Apply site index event)) = (site ≡ i) × (index ≡ told)
IsNext i told (sent_question question) = (question.site ≡ i) × (question.count ≡ told)
IsNext i told (sent_answer answer) = ⊥

-- and so is each of these behind those before it
abbrev pub AreInStep : ℕ → List Sent → Type 0
AreInStep i asked = (k : ℕ) (one : Sent) → slice_get asked k ≡ Some one → IsNext i (executions_in (take k asked)) one

-- so many executions of a site's stream, from this index on, as the site is told of them
abbrev pub told_of : JournalState → ℕ → ℕ → ℕ → List Sent
told_of j i from count = map (λ k. sent_message (Apply i k (slice_index_or (stream_of j i) k 0))) (range_with_len from count)

-- all those of which a site wasn't told that was told of so many
abbrev pub untold : JournalState → ℕ → ℕ → List Sent
untold j i told = told_of j i told (length (stream_of j i) - told)

-- These are in step, tell the site of so many executions, and are true of the journal, whatever is out there.
pub record AreTold (G : Rules) (C : List Set) (M : Marking) (j : JournalState) (i told : ℕ) (asked : List Sent) : Type 0 where
  pub in_step : AreInStep i asked
  pub many : told ≡ executions_in asked
  pub are_true : AreTrue G C M (withdrawn j) asked
