-- A `MemLink` as contracts see it.
use Rattle.std.specs.Prelude.{◌≡◌, Some}
use Rattle.dcr_base.specs.Link.{Links, links_of}
use Rattle.dcr_base.specs.Side.{Side, side}
use Rattle.dcr_fakes.specs.SinkState.{SinkState}
use Rattle.dcr_fakes.specs.SourceState.{SourceState}

pub record LinkState : Type 0 where
  -- what is asked
  pub source : SourceState
  -- what is answered
  pub sink : SinkState

-- neither direction has counted a fault
pub record IsFresh (link : LinkState) : Type 0 where
  pub reads : link.source.calls.faults ≡ 0
  pub writes : link.sink.calls.faults ≡ 0

-- what it tells, open or ended
abbrev pub asked_of : LinkState → Side
asked_of link = side (Some link.source.left) link.source.calls.faults

abbrev pub answered_of : LinkState → Side
answered_of link = side (Some link.sink.taken) link.sink.calls.faults

abbrev pub mem_links : Links LinkState LinkState
mem_links = links_of asked_of answered_of asked_of answered_of
