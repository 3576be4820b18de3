-- The rule of a turn's table: what holds of its word and of the views of its seats between any two steps.
use Rattle.std.specs.Prelude.{◌≡◌, ℕ, ◌<◌, List, [], ◌∷◌, length}
use Rattle.std.specs.List.{All}
use Rattle.atomic_table.specs.Table.{State}
use Rattle.dcr_set.specs.EventSet.{Set}
use Rattle.dcr_journal.specs.declared.call.Entry.{Entry}
use Rattle.dcr_turn.specs.declared.record.Holder.{Holder}
use Rattle.dcr_turn.specs.declared.record.Record.{Record}
use Rattle.dcr_turn.specs.Covers.{Covers}
use Rattle.dcr_turn.specs.Records.{concerns, is_of_turn, once, standing}

-- what a record says of the journal's list: what its holder has seen begins it, and nothing after that concerns the holder
abbrev pub IsRight : List Set → List Entry → Record → Type 0
IsRight alphabets J r = Covers (concerns alphabets r.holder) r.seen J

pub record HasRightRecords (alphabets : List Set) (sessions : ℕ) (s : State (Unit {0}) (List Record)) : Type 0 where
  -- the journal's list
  pub history : List Entry
  -- the word is its length
  pub word : s.words ≡ length history ∷ []
  -- every record is right
  pub right : All (All (IsRight alphabets history)) s.views
  -- the journal, each site and each session has one record, over all views, and nobody else has one
  pub one_each : (x : Holder) → standing x s.views ≡ once (is_of_turn alphabets sessions x)
  -- no other session has an entry
  pub below : All (λ (entry : Entry). entry.session < sessions) history
