use Rattle.std.proofs.Common.{◌++◌}
use Rattle.dcr_turn.proofs.Rows.{records_are, row_again, reads_as, with_more}
use Rattle.dcr_turn.proofs.front_row.FrontRow.put_all.Goals as goal

pub invariant_of-self : goal.invariant_of-self
invariant_of-self g c =
    row_again c.append.new.self (c.args.self.now ++ c.requires.0)
    (with_more c.self.inside.records c.args.records c.append.new.self c.args.self.now c.requires.0
    (records_are c.self.inside.records c.args.self.now c.self.invariant c.self.view_is) c.requires.1 c.append.ensures)

pub returns : goal.returns
returns g c = λ fronts are.
    reads_as c.append.new.self (c.args.self.now ++ fronts)
    (with_more c.self.inside.records c.args.records c.append.new.self c.args.self.now fronts
    (records_are c.self.inside.records c.args.self.now c.self.invariant c.self.view_is) are c.append.ensures)
