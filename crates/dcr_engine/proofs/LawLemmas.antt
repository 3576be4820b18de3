-- A run in the order of one worker is the told run.
use Rattle.std.proofs.Common.{◌≡◌, ℕ, ◌+◌, List, [], sym, ap, ◌∙◌, arith}
use Rattle.std.specs.Prelude.{fold}
use Rattle.dcr_journal.specs.Run.{calls_of, told_next}
use Rattle.dcr_journal.specs.declared.call.Entry.{Entry}
use Rattle.dcr_work.specs.Order.{IsInWorkerOrder}
use Rattle.dcr_engine.specs.Laws.{OrderedIsTold}
use Rattle.dcr_engine.proofs.LegalLemmas.{told_of_asked}
use Rattle.dcr_engine.proofs.TurnsLemmas.{RisesFrom, in_turn, rises_by_place}

-- in the order of one worker the sessions never fall
rises : (J : List Entry) → IsInWorkerOrder 1 J → RisesFrom 0 J
rises J order = rises_by_place 0 J (λ a x here. omega arith) (λ a b x y x_at y_at less. order a b x y x_at y_at less (omega arith))

pub ordered_is_told_lem : OrderedIsTold
ordered_is_told_lem G C M sessions J legal sound order all below =
    sym (told_of_asked G C M J legal sound)
    ∙ ap (fold (told_next G C M) [])
    (in_turn sessions 0 J (rises J order) (λ j. ap (λ (k : ℕ). calls_of k J) (let same : 0 + j ≡ j = omega arith in same) ∙ all j))
