-- A stream as contracts see it.
use Rattle.std.specs.Prelude.{◌≤◌, length, vec_capacity}
use Rattle.dcr_node.specs.StreamValue.{StreamValue}
use Rattle.dcr_node.specs.declared.stream.Stream.TheInside.{Inside}

abbrev pub stream_value_of : Inside → StreamValue
stream_value_of s = record { events = s.events.items; room = s.room }

-- there are places for as many events as the room says, and no more events
pub record HasPlaces (s : Inside) : Type 0 where
  pub most : s.room ≤ 200000
  pub within : length s.events.items ≤ s.room
  pub places : s.room ≤ vec_capacity s.events
