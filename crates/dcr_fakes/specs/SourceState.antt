-- A `MemSource` as contracts see it.
use Rattle.std.specs.Prelude.{ℕ, List, length, min}
use Rattle.dcr_fakes.specs.CallLog.{CallLog}

pub record SourceState : Type 0 where
  -- the bytes that were not given yet
  pub left : List ℕ
  -- how many bytes a read gives at most
  pub step : ℕ
  pub calls : CallLog

-- how many bytes a read gives to a buffer of so many
abbrev pub piece_len : SourceState → ℕ → ℕ
piece_len source room = min (min source.step room) (length source.left)
