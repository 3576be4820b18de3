-- What a `Seat` stands for.
use Rattle.std.specs.Prelude.{◌≡◌}
use Rattle.dcr_turn.specs.PassValue.{PassValue}
use Rattle.dcr_serving.specs.Serving.{new_pass}
use Rattle.dcr_serving.specs.declared.seat.Seat.TheInside.{Inside}

abbrev pub seat_of : {N : Type 0} → Inside N → PassValue
seat_of s = s.pass

abbrev pub HasDoneNothing : {N : Type 0} → Inside N → Type 0
HasDoneNothing s = s.pass ≡ new_pass s.pass.session
