use Rattle.std.proofs.Common.{◌++◌, map, ap, ◌∙◌, subst}
use Rattle.std.specs.List.{All}
use Rattle.dcr_turn.specs.LedgerValue.{LedgerValue}
use Rattle.dcr_turn.specs.FrontValue.{FrontValue, HasMissedNone}
use Rattle.dcr_turn.specs.Records.{sites_in}
use Rattle.dcr_turn.proofs.Rows.{row_joined, row_heard, row_missed_none}
use Rattle.dcr_turn.proofs.Visiting.{ledger_again, enlisted_is}
use Rattle.dcr_turn.proofs.ledger.Ledger.enlist_row.Goals as goal

pub invariant_of-self : goal.invariant_of-self
invariant_of-self g c =
    let H = c.self.inside.journal.entries in
    let L = sites_in c.self.inside.records in
    let fronts = c.args.row.now in
    let came = row_joined H L fronts c.self.inside.records c.take_all.result c.join.new.self c.hear.new.self c.self.invariant.records c.take_all.ensures.records c.join.ensures in
    let heard = row_heard H L fronts c.self.inside.records c.take_all.result c.join.new.self c.hear.new.self came c.hear.ensures.told in
    record { records = ledger_again c.hear.new.self H (map (λ (f : FrontValue). f.site) fronts ++ L) heard; capacity = c.self.invariant.capacity; faulted = c.self.invariant.faulted }

pub returns-clause-enlisted : goal.returns-clause-enlisted
returns-clause-enlisted g c =
    let H = c.self.inside.journal.entries in
    let L = sites_in c.self.inside.records in
    let fronts = c.args.row.now in
    let came = row_joined H L fronts c.self.inside.records c.take_all.result c.join.new.self c.hear.new.self c.self.invariant.records c.take_all.ensures.records c.join.ensures in
    let heard = row_heard H L fronts c.self.inside.records c.take_all.result c.join.new.self c.hear.new.self came c.hear.ensures.told in
    enlisted_is c.hear.new.self H (map (λ (f : FrontValue). f.site) fronts ++ L) heard ∙ ap (λ (d : LedgerValue). map (λ (f : FrontValue). f.site) fronts ++ d.enlisted) c.self.view_is

pub returns-clause-seen : goal.returns-clause-seen
returns-clause-seen g c =
    let H = c.self.inside.journal.entries in
    let L = sites_in c.self.inside.records in
    let fronts = c.args.row.now in
    let came = row_joined H L fronts c.self.inside.records c.take_all.result c.join.new.self c.hear.new.self c.self.invariant.records c.take_all.ensures.records c.join.ensures in
    subst (λ (d : LedgerValue). All (λ front. HasMissedNone g.N.TurnName.turn front d.entries) fronts) c.self.view_is
    (row_missed_none g.N.TurnName.turn H L fronts c.join.new.self came c.hear.ensures.stand)
