-- What each kind of step tells the seat that takes it, of the step, the seat before and the seat after.
use Rattle.std.specs.Prelude.{◌≡◌, ℕ, ◌<◌, ◌≤◌, if◌then◌else◌, nat_lt, List, [], ◌∷◌, ◌++◌, length, map, take, drop}
use Rattle.std.specs.List.{All}
use Rattle.atomic_table.specs.Table.{Step, Me}
use Rattle.dcr_set.specs.EventSet.{Set}
use Rattle.dcr_journal.specs.declared.call.Entry.{Entry}
use Rattle.dcr_turn.specs.declared.record.Holder.{Holder}
use Rattle.dcr_turn.specs.declared.record.Record.{Record}
use Rattle.dcr_turn.specs.Records.{times, told, first_seen}
use Rattle.dcr_turn.specs.declared.record.Holder.TheVariants.{Journal}
use Rattle.dcr_turn.specs.Rule.{IsRight}

abbrev pub Place : Type 0
Place = Me (Unit {0}) (List Record)

-- publish: each record gets the first one's list and the entry that was pushed
abbrev pub Publishes : Entry → Step (Unit {0}) → Place → ℕ → Place → Type 0
Publishes entry s before found after = after ≡ (map (told (first_seen before.0 ++ entry ∷ [])) before.0, before.1)

-- what a look at the word tells of records that are in one hand: there is a list that each of them is right of, each holder stands among
-- them at most once, and no entry is of a session that the turn doesn't have
pub record Stand (alphabets : List Set) (sessions : ℕ) (records : List Record) (J : List Entry) : Type 0 where
  pub right : All (IsRight alphabets J) records
  pub once : (x : Holder) → times x records ≤ 1
  pub below : All (λ (entry : Entry). entry.session < sessions) J

-- load, with the journal's record first: they stand in its list, and each gets it
abbrev pub Hears : List Set → ℕ → Step (Unit {0}) → Place → ℕ → Place → Type 0
Hears alphabets sessions s before found after =
    Stand alphabets sessions before.0 (first_seen before.0) × (after ≡ (map (told (first_seen before.0)) before.0, before.1))

-- the longer of two lists
abbrev pub longer : List Entry → List Entry → List Entry
longer front other = if nat_lt (length front) (length other) then other else front

-- the first of two records with the longer list of the two
abbrev pub with_longer : List Record → List Record
with_longer [] = []
with_longer (r ∷ []) = r ∷ []
with_longer (r ∷ q ∷ rs) = told (longer r.seen q.seen) r ∷ q ∷ rs

-- load, with two records: they stand in a list, and the first gets the longer one of theirs
abbrev pub Compares : List Set → ℕ → Step (Unit {0}) → Place → ℕ → Place → Type 0
Compares alphabets sessions s before found after =
    (J : List Entry) × Stand alphabets sessions before.0 J × (after ≡ (with_longer before.0, before.1))

-- join: the others come behind the first record
abbrev pub joined : List Record → List Record → List Record
joined mine others = take 1 mine ++ others ++ drop 1 mine

-- a new seat has no record
abbrev pub Sits : Step (Unit {0}) → Place → ℕ → Place → Type 0
Sits s before found after = after ≡ ([], [])

-- split: the second record goes
abbrev pub kept : List Record → List Record
kept records = take 1 records ++ drop 2 records

abbrev pub cut : List Record → List Record
cut records = take 1 (drop 1 records)

-- the journal's record stands first
abbrev pub IsJournalFirst : List Record → Type 0
IsJournalFirst [] = ⊥
IsJournalFirst (r ∷ rs) = r.holder ≡ Journal
