-- What a front must be of the journal's list: a beginning of it, after which nothing concerns its holder.
use Rattle.std.specs.Prelude.{◌≡◌, ℕ, Bool, false, List, ◌++◌, ◌==◌}
use Rattle.std.specs.List.{All}
use Rattle.std.specs.Option.{option_map_or}
use Rattle.dcr_set.specs.EventSet.{Set, has}
use Rattle.dcr_journal.specs.Run.{event_done}
use Rattle.dcr_journal.specs.declared.call.Entry.{Entry}

-- whether the entry is an execution that was done, of an event of the alphabet
abbrev pub is_heard : Set → Entry → Bool
is_heard alphabet entry = option_map_or (has alphabet) (event_done entry.call entry.outcome) false

-- whether the entry is the session's
abbrev pub is_by : ℕ → Entry → Bool
is_by session entry = entry.session == session

-- the front begins the list, and no entry after it concerns its holder
pub record Covers (concerns : Entry → Bool) (front J : List Entry) : Type 0 where
  pub rest : List Entry
  pub whole : front ++ rest ≡ J
  pub spared : All (λ entry. concerns entry ≡ false) rest
