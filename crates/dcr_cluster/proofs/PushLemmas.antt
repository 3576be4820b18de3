-- What is done under the journal's lock: an entry that was made, and none.
use Rattle.std.proofs.Common.{◌≡◌, ℕ, ◌+◌, ◌-◌, ◌<◌, ◌≤◌, true, List, [], ◌∷◌, ◌++◌, length, Option, Ok, Err, refl, sym, ap, ◌∙◌, subst, arith}
use Rattle.std.specs.Prelude.{slice_get}
use Rattle.std.proofs.lemmas.Option.{slice_get_within}
use Rattle.dcr_base.specs.Disk.{DiskView}
use Rattle.dcr_journal.specs.Run.{HasNoFault, made_by}
use Rattle.dcr_journal.specs.declared.call.Call.{Call}
use Rattle.dcr_journal.specs.declared.call.Entry.{Entry}
use Rattle.dcr_journal.specs.declared.call.Outcome.{Outcome}
use Rattle.dcr_tape.specs.declared.tape.Store.{Store}
use Rattle.dcr_turn.specs.GuardValue.{GuardValue, with_entries, with_kept}
use Rattle.dcr_turn.specs.PassValue.{PassValue}
use Rattle.dcr_turn.specs.Pushing.{EndsWithoutFault, ends_in_fault, entry_of}
use Rattle.dcr_turn.proofs.Faults.{fault_at_end}
use Rattle.dcr_cell.specs.ClusterId.{ClusterId, IsCall, answer_after}
use Rattle.dcr_cell.specs.Keeping.{IsToldAs, StandsBy}
use Rattle.dcr_cell.specs.Stored.{CanKeep, StoreStands}
use Rattle.dcr_cell.specs.declared.kept.Kept.{Kept}
use Rattle.dcr_cell.proofs.RunLemmas.{no_fault_by_last}
use Rattle.dcr_cell.proofs.StoreLemmas.{can_keep, taped_fault}
use Rattle.dcr_cluster.specs.Entering.{Pushed}
use Rattle.dcr_cluster.specs.declared.halt.Halt.TheVariants.{Full, Stopped}

module _ {D N : Type 0} (view : D → DiskView) (faults : D → ℕ) (c : ClusterId) (first : Option (Store D)) (capacity : ℕ) where
  -- where a fault ends the list
  pub pushed_stopped : (guard : GuardValue (Kept D N)) (pass : PassValue) (call : Call) (found : Outcome) (seen : ℕ) → StandsBy view faults c first guard.entries guard.kept.store
      → ends_in_fault guard.entries ≡ true → pass.front ≡ guard.entries → seen ≡ length pass.front
      → Pushed view faults c first capacity guard guard pass pass call found (Err (Stopped (seen - 1)))
  pushed_stopped guard pass call found seen stands ends met is =
      let many : seen ≡ length guard.entries = is ∙ ap length met in
      let fault = fault_at_end guard.entries ends in
      let below : length guard.entries - 1 < length guard.entries = slice_get_within guard.entries (length guard.entries - 1) fault.0 fault.1 in
      record {
        enlisted = refl;
        front = met;
        call_ends = record {
          entries = refl;
          shows = (
            taped_fault view faults first c.old guard.entries guard.kept.store (length guard.entries - 1) fault.0 stands.stored fault.1 fault.2,
            omega arith,
            (fault.0, ap (λ n. slice_get guard.entries (n - 1)) many ∙ fault.1, fault.2),
          );
          session = refl;
          made = refl;
          stands = stands;
        };
      }

  -- where there is room for no entry more
  pub pushed_none : (guard : GuardValue (Kept D N)) (pass : PassValue) (call : Call) (found : Outcome) (seen spare : ℕ) → StandsBy view faults c first guard.entries guard.kept.store
      → EndsWithoutFault guard.entries → pass.front ≡ guard.entries → seen ≡ length pass.front → spare + length guard.entries ≡ capacity → spare ≡ 0
      → Pushed view faults c first capacity guard guard pass pass call found (Err (Full seen))
  pushed_none guard pass call found seen spare stands ends met is room full =
      let many : length pass.front ≡ length guard.entries = ap length met in
      let none : HasNoFault guard.entries = no_fault_by_last c guard.entries stands.legal ends in
      record {
        enlisted = refl;
        front = met;
        call_ends = record {
          entries = refl;
          shows = (omega arith, omega arith, none);
          session = refl;
          made = refl;
          stands = stands;
        };
      }

  -- where there is room for one, an execution may be put on the tape
  pub may_keep : (guard : GuardValue (Kept D N)) (lent : Kept D N) (spare : ℕ) → StandsBy view faults c first guard.entries guard.kept.store → lent ≡ guard.kept
      → EndsWithoutFault guard.entries → spare + length guard.entries ≡ capacity → ¬ (spare ≡ 0) → capacity ≤ 200000 → length c.old ≤ 1000000 → CanKeep lent.store
  may_keep guard lent spare stands as_kept ends room spared most few =
      subst (λ (k : Kept D N). CanKeep k.store) (sym as_kept)
      (can_keep view faults first c guard.entries guard.kept.store stands (no_fault_by_last c guard.entries stands.legal ends) (omega arith) few)

  -- what is made where there is room
  pub pushed_one : (guard after : GuardValue (Kept D N)) (lent kept : Kept D N) (pass then : PassValue) (call : Call) (found told : Outcome) (spare : ℕ)
      → StandsBy view faults c first guard.entries guard.kept.store → EndsWithoutFault guard.entries → pass.front ≡ guard.entries → pass.made ≡ made_by pass.session guard.entries
      → IsCall c call → spare + length guard.entries ≡ capacity → ¬ (spare ≡ 0)
      → lent ≡ guard.kept
      → ((J : List Entry) → StoreStands view faults first c.old J lent.store → IsToldAs first found told)
      → ((J : List Entry) (entry : Entry) → StandsBy view faults c first J lent.store → HasNoFault J → IsCall c call → entry.call ≡ call → entry.seq ≡ made_by entry.session J
      → found ≡ answer_after c J call → entry.outcome ≡ told → StandsBy view faults c first (J ++ entry ∷ []) kept.store)
      → after ≡ with_entries (with_kept guard kept) (guard.entries ++ entry_of pass call told ∷ [])
      → then.session ≡ pass.session → then.front ≡ after.entries → then.made ≡ pass.made + 1
      → Pushed view faults c first capacity guard after pass then call found (Ok told)
  pushed_one guard after lent kept pass then call found told spare stands ends met made is_call room spared as_kept told_as keeps is session front more =
      let stood : StandsBy view faults c first guard.entries lent.store = subst (λ (k : Kept D N). StandsBy view faults c first guard.entries k.store) (sym as_kept) stands in
      let none : HasNoFault guard.entries = no_fault_by_last c guard.entries stands.legal ends in
      let entry : Entry = entry_of pass call told in
      let entries : after.entries ≡ guard.entries ++ entry ∷ [] = ap (λ (g : GuardValue (Kept D N)). g.entries) is in
      let stored : after.kept ≡ kept = ap (λ (g : GuardValue (Kept D N)). g.kept) is in
      record {
        enlisted = ap (λ (g : GuardValue (Kept D N)). g.enlisted) is;
        front = front;
        call_ends = record {
          no_fault = none;
          room = omega arith;
          told = told_as guard.entries stood.stored;
          entries = entries;
          session = session;
          made = more;
          stands = λ answered.
              let stands_then : StandsBy view faults c first (guard.entries ++ entry ∷ []) kept.store = keeps guard.entries entry stood none is_call refl made answered refl in
              subst (λ (k : Kept D N). StandsBy view faults c first after.entries k.store) (sym stored)
              (subst (λ (J : List Entry). StandsBy view faults c first J kept.store) (sym entries) stands_then);
        };
      }
