-- What a run of the graph says of its calls and of a fault in it.
use Rattle.std.proofs.Common.{◌≡◌, ◌⊎◌, inl, inr, ℕ, ◌+◌, ◌-◌, List, length, get_or, take, Some, sym, ap, ◌∙◌, subst, arith}
use Rattle.std.specs.Prelude.{slice_get}
use Rattle.std.proofs.lemmas.Option.{slice_get_within, get_or_from_slice_get, slice_get-get_or}
use Rattle.dcr_journal.specs.Run.{HasNoFault, IsLastFault, after}
use Rattle.dcr_journal.proofs.SoundLemmas.{answer_no_fault}
use Rattle.dcr_journal.specs.declared.call.Entry.{Entry}
use Rattle.dcr_journal.specs.declared.call.Outcome.TheVariants.{Faulted}
use Rattle.dcr_turn.specs.Pushing.{EndsWithoutFault}
use Rattle.dcr_cell.specs.ClusterId.{ClusterId, IsRunOf, begun, answer_after}
use Rattle.dcr_cell.specs.Laws.{AreCalls}

-- its calls have numbers of sites and atoms
pub calls_of_run : (c : ClusterId) (J : List Entry) → IsRunOf c J → AreCalls c J
calls_of_run c J run = λ place entry below. (run place (get_or J place entry) (slice_get-get_or J place entry below)).in_range

-- where its last entry is no fault, none is
pub no_fault_by_last : (c : ClusterId) (J : List Entry) → IsRunOf c J → EndsWithoutFault J → HasNoFault J
no_fault_by_last c J run last = λ place entry below fault.
    let at = slice_get-get_or J place entry below in
    no_fault_at place (get_or J place entry) at fault (run place (get_or J place entry) at).outcome
  where
    no_fault_at : (place : ℕ) (entry : Entry) → slice_get J place ≡ Some entry → entry.outcome ≡ Faulted
        → (entry.outcome ≡ answer_after c (take place J) entry.call) ⊎ IsLastFault c.rules c.owned (begun c) J place entry → ⊥
    no_fault_at place entry at fault (inl answered) = answer_no_fault c.rules c.owned (after c.rules (begun c) (take place J)) entry.call (sym answered ∙ fault)
    no_fault_at place entry at fault (inr ends) =
        last entry (ap (slice_get J) (let p : place + 1 ≡ length J = ends.last in let e : length J - 1 ≡ place = omega arith in e) ∙ at) fault

-- where none is its last isn't
pub ends_without : (J : List Entry) → HasNoFault J → EndsWithoutFault J
ends_without J none entry at =
    subst (λ (e : Entry). e.outcome ≡ Faulted → ⊥) (get_or_from_slice_get J (length J - 1) entry entry at) (none (length J - 1) entry (slice_get_within J (length J - 1) entry at))
