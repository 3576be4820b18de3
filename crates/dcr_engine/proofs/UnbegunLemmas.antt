-- What is left of a store where no call was made.
use Rattle.std.proofs.Common.{◌≡◌, ℕ, ◌+◌, ◌<◌, List, [], length, get_or, Option, Some, sym, ap, subst, ◌∙◌, arith}
use Rattle.std.specs.List.{All, range_with_len}
use Rattle.std.proofs.lemmas.List.{get_or-map, length-map}
use Rattle.std.proofs.lemmas.List.FromFn.{length-range_with_len, get_or-range_with_len}
use Rattle.dcr_base.specs.Disk.{DiskView}
use Rattle.dcr_journal.specs.declared.call.Entry.{Entry}
use Rattle.dcr_journal.specs.declared.closed.Closed.{Closed}
use Rattle.dcr_tape.specs.declared.tape.Store.{Store}
use Rattle.dcr_turn.specs.PassValue.{PassValue, HasMadeAll, new_passes}
use Rattle.dcr_turn.specs.TurnId.{TurnId}
use Rattle.dcr_cell.specs.ClusterId.{ClusterId}
use Rattle.dcr_cell.specs.Stored.{MayBegin, StoreStands}
use Rattle.dcr_cluster.proofs.StoreLemmas.{left_alone, left_unbegun}
use Rattle.dcr_cluster.specs.Closing.{IsEnd}
use Rattle.dcr_cluster.specs.Opening.{Refused}
use Rattle.dcr_cluster.specs.declared.refused.OpenCause.TheVariants.{NoMemory}
use Rattle.dcr_engine.proofs.CountLemmas.{none_made}

-- no cluster was opened, for want of memory
pub unopened : {D : Type 0} (view : D → DiskView) (faults : D → ℕ) (c : ClusterId) (store : Store D) → MayBegin view c.old store → Refused view faults c store NoMemory store
unopened view faults c store may = record { stands = record {}; leaves = left_alone view faults c.old store may }

-- new passes have made no call
no_entry : (n : ℕ) (J : List Entry) → All (λ pass. HasMadeAll pass J) (new_passes n) → All (λ (entry : Entry). entry.session < n) J → J ≡ []
no_entry n J all below =
    none_made n J below (λ k within.
    let new : ℕ → PassValue = λ s. record { session = s; front = []; made = 0 } in
    let many : length (range_with_len 0 n) ≡ n = length-range_with_len 0 n in
    let place : k < length (range_with_len 0 n) = omega (arith, many, within) in
    let here : k < length (new_passes n) = (let same = length-map (range_with_len 0 n) new in omega (arith, same, place)) in
    let is : get_or (new_passes n) k (new 0) ≡ new k =
    get_or-map new (range_with_len 0 n) k 0 (new 0) place ∙ ap new (get_or-range_with_len 0 n k 0 within ∙ (let same : 0 + k ≡ k = omega arith in same)) in
    let pass : HasMadeAll (new k) J = subst (λ (p : PassValue). HasMadeAll p J) is (all k (new 0) here) in
    sym pass.made)

-- no call was made, for want of memory
pub refused : {D : Type 0} (view : D → DiskView) (faults : D → ℕ) (c : ClusterId) (turn : TurnId) (first : Option (Store D)) (capacity : ℕ) (passes : List PassValue) (closed : Closed)
    (begun_with store : Store D) → first ≡ Some begun_with → passes ≡ new_passes turn.sessions → IsEnd view faults c turn first capacity passes closed store
    → Refused view faults c begun_with NoMemory store
refused view faults c turn first capacity passes closed begun_with store is new end =
    let J = closed.history.entries in
    let none : J ≡ [] = no_entry turn.sessions J (subst (All (λ pass. HasMadeAll pass J)) new end.made) end.sessions in
    record {
      stands = record {};
      leaves = left_unbegun view faults c.old begun_with store
          (subst (λ (f : Option (Store _)). StoreStands view faults f c.old [] store) is
          (subst (λ (K : List Entry). StoreStands view faults first c.old K store) none end.stored));
    }
