-- What a session has seen and done, as contracts see it.
use Rattle.std.specs.Prelude.{◌≡◌, ℕ, List, [], map}
use Rattle.std.specs.List.{range_with_len}
use Rattle.dcr_journal.specs.Run.{made_by}
use Rattle.dcr_journal.specs.declared.call.Entry.{Entry}
use Rattle.dcr_turn.specs.Covers.{Covers, is_by}

pub record PassValue : Type 0 where
  -- the number of the session
  pub session : ℕ
  -- the entries that it has seen
  pub front : List Entry
  -- how many calls it has made
  pub made : ℕ

-- the front begins the list, no later entry is of the session, and the session has as many entries there as calls were made
pub record HasMadeAll (pass : PassValue) (J : List Entry) : Type 0 where
  pub seen : Covers (is_by pass.session) pass.front J
  pub made : pass.made ≡ made_by pass.session J

-- the passes of so many sessions, in order, which have seen and done nothing
abbrev pub new_passes : ℕ → List PassValue
new_passes sessions = map (λ (k : ℕ). record { session = k; front = []; made = 0 }) (range_with_len 0 sessions)
