-- What the fields of a `MemPorter` stand for.
use Rattle.std.specs.Prelude.{vec_capacity}
use Rattle.dcr_porter_fakes.specs.PorterState.{PorterState, AreFresh}
use Rattle.dcr_porter_fakes.specs.declared.mem_porter.MemPorter.TheInside.{Inside}

abbrev pub porter_of : Inside → PorterState
porter_of p = record { turns = p.turns.items; back = p.back.items; room = vec_capacity p.back; is_whole = p.is_whole; calls = p.calls.calls }

-- no link that is left has counted a fault
abbrev pub HasFreshTurns : Inside → Type 0
HasFreshTurns p = AreFresh p.turns.items
