-- Entries in slots, and the sets of their outcomes in a row of words beside them.
use Rattle.std.specs.Prelude.{◌≡◌, ℕ, ◌+◌, ◌≤◌, List, length, take}
use Rattle.dcr_set.specs.declared.id.TheConstants.{MAX_ATOMS}
use Rattle.dcr_set.specs.Kept.{set_at, words_needed}
use Rattle.dcr_journal.specs.declared.call.Entry.{Entry}
use Rattle.dcr_journal.specs.declared.call.Outcome.{Outcome}
use Rattle.dcr_journal.specs.declared.call.Outcome.TheVariants.{Done, NotHere, Excluded, Condition, Milestone, Faulted, Marks, Can, AllDone, Waits}
use Rattle.dcr_journal.specs.declared.slot.Kept.{Kept}
use Rattle.dcr_journal.specs.declared.slot.Kept.TheVariants as kept
use Rattle.dcr_journal.specs.declared.slot.Slot.{Slot}
use Rattle.dcr_journal.specs.declared.slot.TheConstants.{MOST_WORDS}

-- the outcome that is kept, whose sets stand in the row one after the other from this word on
abbrev pub outcome_at : List ℕ → ℕ → Kept → Outcome
outcome_at row place kept.Done = Done
outcome_at row place kept.NotHere = NotHere
outcome_at row place kept.Excluded = Excluded
outcome_at row place (kept.Condition c) = Condition c
outcome_at row place (kept.Milestone m) = Milestone m
outcome_at row place kept.Faulted = Faulted
outcome_at row place (kept.Marks executed pending included) = Marks (record {
  executed = set_at row place executed;
  pending = set_at row (place + words_needed executed) pending;
  included = set_at row (place + words_needed executed + words_needed pending) included;
})
outcome_at row place (kept.Can room) = Can (set_at row place room)
outcome_at row place kept.AllDone = AllDone
outcome_at row place (kept.Waits a) = Waits a

-- the entry of a slot
abbrev pub entry_at : List ℕ → Slot → Entry
entry_at row slot = record {
  session = slot.session;
  seq = slot.seq;
  call = slot.call;
  outcome = outcome_at row slot.place slot.outcome;
}

-- a set with this room stands in the row from this word on
pub record IsSetIn (row : List ℕ) (place room : ℕ) : Type 0 where
  pub most : room ≤ MAX_ATOMS
  pub within : place + words_needed room ≤ length row

-- the sets of an outcome stand in the row from this word on
abbrev pub IsIn : List ℕ → ℕ → Kept → Type 0
IsIn row place (kept.Marks executed pending included) =
    IsSetIn row place executed
    × IsSetIn row (place + words_needed executed) pending
    × IsSetIn row (place + words_needed executed + words_needed pending) included
IsIn row place (kept.Can room) = IsSetIn row place room
IsIn row place outcome = Unit {0}

-- and so those of a slot
abbrev pub IsKept : List ℕ → Slot → Type 0
IsKept row slot = IsIn row slot.place slot.outcome

-- words came behind those of a row, no more than an entry takes
pub record IsGrown (before after : List ℕ) : Type 0 where
  pub front : take (length before) after ≡ before
  pub most : length after ≤ length before + MOST_WORDS
