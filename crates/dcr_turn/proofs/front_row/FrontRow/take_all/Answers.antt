use Rattle.std.proofs.Common.{◌∙◌}
use Rattle.dcr_turn.proofs.Rows.{records_are}
use Rattle.dcr_turn.proofs.front_row.FrontRow.take_all.Goals as goal

pub returns-clause-records : goal.returns-clause-records
returns-clause-records g c = c.part.ensures.parted ∙ records_are c.self.inside.records c.args.self.now c.self.invariant c.self.view_is
