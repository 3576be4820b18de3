use Rattle.std.proofs.Common.{[], ◌∷◌, ◌++◌}
use Rattle.dcr_turn.proofs.Rows.{records_are, row_again, reads_as, with_more}
use Rattle.dcr_turn.proofs.front_row.FrontRow.push.Goals as goal

pub invariant_of-self : goal.invariant_of-self
invariant_of-self g c =
    row_again c.append.new.self (c.args.self.now ++ c.args.front ∷ [])
    (with_more c.self.inside.records c.into_records.result c.append.new.self c.args.self.now (c.args.front ∷ [])
    (records_are c.self.inside.records c.args.self.now c.self.invariant c.self.view_is) c.into_records.ensures c.append.ensures)

pub returns : goal.returns
returns g c =
    reads_as c.append.new.self (c.args.self.now ++ c.args.front ∷ [])
    (with_more c.self.inside.records c.into_records.result c.append.new.self c.args.self.now (c.args.front ∷ [])
    (records_are c.self.inside.records c.args.self.now c.self.invariant c.self.view_is) c.into_records.ensures c.append.ensures)
