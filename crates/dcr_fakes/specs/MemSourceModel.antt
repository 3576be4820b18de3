-- What the fields of a `MemSource` stand for.
use Rattle.std.specs.Prelude.{◌≤◌, drop, vec_len}
use Rattle.dcr_fakes.specs.SourceState.{SourceState}
use Rattle.dcr_fakes.specs.declared.mem_source.MemSource.TheInside.{Inside}

abbrev pub source_of : Inside → SourceState
source_of s = record { left = drop s.given s.bytes.items; step = s.step; calls = s.calls }

-- a read gives at least one byte of those left, and no more bytes were given than there are
pub record GivesSome (s : Inside) : Type 0 where
  pub step : 1 ≤ s.step
  pub within : s.given ≤ vec_len s.bytes
