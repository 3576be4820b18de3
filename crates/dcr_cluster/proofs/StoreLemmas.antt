-- What is left of a store where a cluster isn't opened.
use Rattle.std.proofs.Common.{◌≡◌, ℕ, ◌≤◌, List, [], ◌++◌, length, take, Some, refl, sym, ap, subst, ◌∙◌}
use Rattle.std.proofs.lemmas.List.{append-nil, take_all}
use Rattle.std.proofs.lemmas.List.Elements.{All-nil}
use Rattle.dcr_base.specs.Count.{Rose}
use Rattle.dcr_base.specs.Disk.{DiskView, IsSteady, LeavesOnly}
use Rattle.dcr_base.proofs.DiskLemmas.{started, weaker}
use Rattle.dcr_journal.specs.Run.{HasNoFault}
use Rattle.dcr_journal.specs.declared.call.Entry.{Entry}
use Rattle.dcr_journal.specs.declared.call.Outcome.TheVariants.{Faulted}
use Rattle.dcr_tape.specs.Kept.{TapeHolds, part_of}
use Rattle.dcr_tape.specs.Tape.{StandsFor}
use Rattle.dcr_tape.specs.declared.entry.TapeEntry.{TapeEntry}
use Rattle.dcr_tape.specs.declared.stop.RenewStop.{RenewStop}
use Rattle.dcr_tape.specs.declared.stop.RenewStop.TheVariants as stop
use Rattle.dcr_tape.specs.declared.tape.Store.{Store}
use Rattle.dcr_tape.specs.declared.tape.Store.TheVariants.{Off, On}
use Rattle.dcr_tape.specs.declared.tape.Tape.{Tape}
use Rattle.dcr_cell.specs.ClusterId.{ClusterId}
use Rattle.dcr_cell.specs.Stored.{MayBegin, StandsForSome, StoreStands, tried_for}
use Rattle.dcr_cluster.specs.Opening.{ArePossible, IsCause, Leaves, cause_of}
use Rattle.dcr_cluster.specs.declared.refused.OpenCause.TheVariants.{NoMemory}

module _ {D : Type 0} (view : D → DiskView) (faults : D → ℕ) (old : List TapeEntry) where
  -- a renewal that was refused
  pub left_by : (first new : Tape D) (why : RenewStop) → MayBegin view old (On first)
      → ((E : List TapeEntry) → TapeHolds view first E → IsSteady (view first.disk) → LeavesOnly (view first.disk) (view new.disk) (StandsFor first.digest E))
      → (why ≡ stop.NoMemory → new ≡ first) → (why ≡ stop.DiskFault → (faults first.disk ≤ faults new.disk) × Rose (faults first.disk) (faults new.disk))
      → Leaves view faults old (cause_of why) (On first) (On new)
  left_by first new stop.DiskFault may images none counts = let up = counts refl in (λ honest. images old may.1 (may.2 honest), up.0, up.1)
  left_by first new stop.NoMemory may images none counts = (
    λ honest. images old may.1 (may.2 honest),
    ap (λ (t : Tape D). faults t.disk) (none refl),
    λ honest. subst (λ (t : Tape D). IsSteady (view t.disk)) (sym (none refl)) (may.2 honest),
  )

  nothing_failed : HasNoFault []
  nothing_failed = All-nil (λ (e : Entry). e.outcome ≡ Faulted → ⊥)

  nothing_tried : tried_for old [] ≡ old
  nothing_tried = append-nil (old ++ []) ∙ append-nil old

  -- a store that nothing was done to
  pub left_alone : (store : Store D) → MayBegin view old store → Leaves view faults old NoMemory store store
  left_alone (Off disk) may = refl
  left_alone (On tape) may = (
    λ honest. started (view tape.disk) (StandsFor tape.digest old) (λ c left.
        subst (StandsFor tape.digest old) (sym ((may.2 honest).only c left)) (record { part = part_of tape; same_case = refl; holds = may.1.holds })),
    refl,
    may.2,
  )

  -- a store over which no call was made
  pub left_unbegun : (first store : Store D) → StoreStands view faults (Some first) old [] store → Leaves view faults old NoMemory first store
  left_unbegun (Off disk) (Off now) stands = ap Off stands.0
  left_unbegun (Off disk) (On tape) stands = absurd stands
  left_unbegun (On first) (Off disk) stands = absurd stands
  left_unbegun (On first) (On tape) stands = (
    λ honest. weaker (view first.disk) (view tape.disk) (StandsForSome first.digest old (tried_for old [])) (StandsFor first.digest old)
        (λ c some.
        subst (λ (l : List TapeEntry). StandsFor first.digest l c)
        (ap (take some.count) nothing_tried ∙ take_all some.count old some.has_old) some.stands)
        (stands.any_moment honest),
    (stands.goes_on nothing_failed).no_fault,
    (stands.goes_on nothing_failed).steady,
  )

pub cause_stands : (c : ClusterId) (why : RenewStop) → ArePossible c (length c.old) → IsCause c (cause_of why)
cause_stands c stop.DiskFault possible = possible
cause_stands c stop.NoMemory possible = record {}
