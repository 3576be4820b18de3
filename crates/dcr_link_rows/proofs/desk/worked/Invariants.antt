use Rattle.std.specs.Prelude.{Some}
use Rattle.dcr_link_rows.proofs.desk.worked.Given as goal

abbrev pub ghosts-one-N-DeskName : goal.ghosts-one-N-DeskName
ghosts-one-N-DeskName g a = record { items = a.count; faults = a.door.calls.faults; links = Some a.door.links }

abbrev pub ghosts-one-N-Ledger : goal.ghosts-one-N-Ledger
ghosts-one-N-Ledger g a = record { name = a.blank.name; parts = a.blank.parts }

abbrev pub ghosts-four-N-DeskName : goal.ghosts-four-N-DeskName
ghosts-four-N-DeskName g a = record { items = a.count; faults = a.door.calls.faults; links = Some a.door.links }

abbrev pub ghosts-four-N-Ledger : goal.ghosts-four-N-Ledger
ghosts-four-N-Ledger g a = record { name = a.blank.name; parts = a.blank.parts }
