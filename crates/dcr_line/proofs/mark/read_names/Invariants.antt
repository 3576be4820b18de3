-- The set so far and the pieces to come give what the text gives.
use Rattle.std.proofs.Common.{◌≡◌, length}
use Rattle.dcr_line.specs.MarkLine.{listed_in}
use Rattle.dcr_line.proofs.ListLemmas.{more_from}
use Rattle.dcr_line.proofs.mark.read_names.Given as goal

abbrev pub invariant-loop-name : goal.invariant-loop-name
invariant-loop-name l = record {
  room : length l.set ≡ length l.directory.atoms;
  read : more_from l.directory.atoms l.low l.set l.name-iterator ≡ listed_in l.directory.atoms l.text;
}
