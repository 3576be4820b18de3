use Rattle.std.proofs.Common.{◌-◌, length}
use Rattle.dcr_turn.proofs.front_row.FrontRow.pop.Given as goal

abbrev pub ghosts-part : goal.ghosts-part
ghosts-part g a = record { place = length a.self.now - 1 }
