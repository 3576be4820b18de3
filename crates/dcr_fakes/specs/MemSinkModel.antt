-- What the fields of a `MemSink` stand for.
use Rattle.std.specs.Prelude.{◌≤◌, vec_len, vec_capacity}
use Rattle.dcr_fakes.specs.SinkState.{SinkState}
use Rattle.dcr_fakes.specs.declared.mem_sink.MemSink.TheInside.{Inside}

abbrev pub sink_of : Inside → SinkState
sink_of s = record { taken = s.taken.items; room = s.room; memory = vec_capacity s.taken; calls = s.calls }

abbrev pub FitsRoom : Inside → Type 0
FitsRoom s = vec_len s.taken ≤ s.room
