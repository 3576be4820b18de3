-- A session as the whole history tells it.
use Rattle.std.specs.Prelude.{ℕ, List}
use Rattle.dcr_journal.specs.Run.{made_by}
use Rattle.dcr_journal.specs.declared.call.Entry.{Entry}
use Rattle.dcr_turn.specs.PassValue.{PassValue}

-- the session's pass, where it has seen the whole history
abbrev pub pass_in : List Entry → ℕ → PassValue
pass_in J session = record { session = session; front = J; made = made_by session J }
