-- What the fields of a journal stand for.
use Rattle.std.specs.Prelude.{◌+◌, ◌-◌, ◌*◌, ◌≤◌, length, map, vec_capacity}
use Rattle.std.specs.List.{All}
use Rattle.dcr_journal.specs.Slots.{entry_at, IsKept}
use Rattle.dcr_journal.specs.JournalValue.{History}
use Rattle.dcr_journal.specs.declared.journal.Journal.TheInside.{Inside}
use Rattle.dcr_journal.specs.declared.slot.TheConstants.{MOST_WORDS}

abbrev pub history_of : Inside → History
history_of j = record { entries = map (entry_at j.row.items) j.slots.items; capacity = j.capacity }

-- the sets of each slot stand in the row, and there are places for as many more entries as the capacity allows, and
-- words for the sets of each
pub record FitsCapacity (j : Inside) : Type 0 where
  pub most : j.capacity ≤ 200000
  pub within : length j.slots.items ≤ j.capacity
  pub kept : All (IsKept j.row.items) j.slots.items
  pub few : length j.row.items ≤ MOST_WORDS * length j.slots.items
  pub places : j.capacity ≤ vec_capacity j.slots
  pub words : length j.row.items + MOST_WORDS * (j.capacity - length j.slots.items) ≤ vec_capacity j.row
