-- A `MemSink` as contracts see it.
use Rattle.std.specs.Prelude.{ℕ, ◌-◌, ◌<◌, ◌≤◌, ◌⊎◌, List, length, min}
use Rattle.dcr_fakes.specs.CallLog.{CallLog, FailsNext}

pub record SinkState : Type 0 where
  pub taken : List ℕ
  -- how many bytes it takes in all
  pub room : ℕ
  -- for how many bytes it has memory
  pub memory : ℕ
  pub calls : CallLog

-- how many bytes of a piece of so many there is room for
abbrev pub fitting : SinkState → ℕ → ℕ
fitting sink len = min len (sink.room - length sink.taken)

-- a write of so many bytes is refused: it is one of those that fail, or there are bytes and no room
abbrev pub Refuses : SinkState → ℕ → Type 0
Refuses sink len = FailsNext sink.calls ⊎ ((0 < len) × (sink.room ≤ length sink.taken))
