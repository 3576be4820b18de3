-- What the fields of a blank stand for.
use Rattle.std.specs.Prelude.{◌≡◌, [], length}
use Rattle.dcr_turn.specs.Records.{everyone}
use Rattle.dcr_turn.specs.TurnId.{TurnId}
use Rattle.dcr_turn.specs.declared.blank.TurnBlank.TheInside.{Inside}

abbrev pub turn_of : Inside → TurnId
turn_of blank = record {
  mark = blank.table.shared.table_id;
  alphabets = blank.table.shared.key.0.value;
  sessions = blank.table.shared.key.1;
}

-- the seat has the records of all, who have seen nothing
pub record IsBlank (blank : Inside) : Type 0 where
  pub words : blank.table.shared.table_id.words ≡ 1
  pub mark : blank.seat.table_id ≡ blank.table.shared.table_id
  pub seat : blank.seat.me ≡ (everyone (length blank.table.shared.key.0.value) blank.table.shared.key.1, [])
  pub sites : blank.sites ≡ length blank.table.shared.key.0.value
  pub sessions : blank.sessions ≡ blank.table.shared.key.1
