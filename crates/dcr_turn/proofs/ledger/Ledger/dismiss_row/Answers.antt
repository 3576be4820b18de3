use Rattle.std.proofs.Common.{List, ◌++◌, [], ap, ◌∙◌}
use Rattle.dcr_turn.specs.LedgerValue.{LedgerValue}
use Rattle.dcr_turn.specs.FrontValue.{FrontValue, fronts_at}
use Rattle.dcr_turn.specs.Records.{sites_in}
use Rattle.dcr_turn.proofs.Rows.{row_gone, row_taken}
use Rattle.dcr_turn.proofs.Visiting.{ledger_again, enlisted_is}
use Rattle.dcr_turn.proofs.ledger.Ledger.dismiss_row.Goals as goal

pub put_all-requires : goal.put_all-requires
put_all-requires g c =
    let H = c.self.inside.journal.entries in
    let L = sites_in c.self.inside.records in
    (fronts_at H L, row_taken H L c.self.inside.records c.part.result c.self.invariant.records c.part.ensures.parted)

pub invariant_of-self : goal.invariant_of-self
invariant_of-self g c =
    let H = c.self.inside.journal.entries in
    let L = sites_in c.self.inside.records in
    let gone = row_gone H L c.self.inside.records c.part.new.self c.self.invariant.records c.part.ensures.kept in
    record { records = ledger_again c.part.new.self H [] gone; capacity = c.self.invariant.capacity; faulted = c.self.invariant.faulted }

pub returns-clause-enlisted : goal.returns-clause-enlisted
returns-clause-enlisted g c =
    let H = c.self.inside.journal.entries in
    let L = sites_in c.self.inside.records in
    enlisted_is c.part.new.self H [] (row_gone H L c.self.inside.records c.part.new.self c.self.invariant.records c.part.ensures.kept)

pub returns-clause-row : goal.returns-clause-row
returns-clause-row g c =
    let H = c.self.inside.journal.entries in
    let L = sites_in c.self.inside.records in
    c.put_all.ensures (fronts_at H L) (row_taken H L c.self.inside.records c.part.result c.self.invariant.records c.part.ensures.parted)
    ∙ ap (λ (l : List FrontValue). l ++ fronts_at H L) c.requires
    ∙ ap (λ (d : LedgerValue). fronts_at d.entries d.enlisted) c.self.view_is
