use Rattle.std.proofs.Common.{[], ◌∷◌, ap, ◌∙◌, subst}
use Rattle.std.specs.List.{Contains}
use Rattle.std.specs.Prelude.{slice_index_or}
use Rattle.dcr_turn.specs.Covers.{Covers, is_heard}
use Rattle.dcr_turn.specs.LedgerValue.{LedgerValue}
use Rattle.dcr_turn.specs.Records.{knowing, sites_in}
use Rattle.dcr_turn.specs.declared.record.Holder.TheVariants.{Site}
use Rattle.dcr_turn.proofs.Visiting.{ledger_again, enlisted_is, joined_is, heard_is, visitor_stands, visitor_covers, enlisted_once}
use Rattle.dcr_turn.proofs.ledger.Ledger.enlist.Goals as goal

pub invariant_of-self : goal.invariant_of-self
invariant_of-self g c =
    let H = c.self.inside.journal.entries in
    let L = sites_in c.self.inside.records in
    let r = knowing c.args.front.front (Site c.args.front.site) in
    let came = joined_is H H L r r c.self.inside.records c.into_records.result c.join.new.self c.self.invariant.records c.into_records.ensures c.join.ensures in
    let heard = heard_is H H L r r c.join.new.self c.into_records.result c.hear.new.self came c.hear.ensures.told in
    record { records = ledger_again c.hear.new.self H (c.args.front.site ∷ L) heard; capacity = c.self.invariant.capacity; faulted = c.self.invariant.faulted }

pub returns-clause-enlisted : goal.returns-clause-enlisted
returns-clause-enlisted g c =
    let H = c.self.inside.journal.entries in
    let L = sites_in c.self.inside.records in
    let r = knowing c.args.front.front (Site c.args.front.site) in
    let came = joined_is H H L r r c.self.inside.records c.into_records.result c.join.new.self c.self.invariant.records c.into_records.ensures c.join.ensures in
    let heard = heard_is H H L r r c.join.new.self c.into_records.result c.hear.new.self came c.hear.ensures.told in
    enlisted_is c.hear.new.self H (c.args.front.site ∷ L) heard ∙ ap (λ (d : LedgerValue). c.args.front.site ∷ d.enlisted) c.self.view_is

pub returns-clause-seen : goal.returns-clause-seen
returns-clause-seen g c =
    let H = c.self.inside.journal.entries in
    let L = sites_in c.self.inside.records in
    let r = knowing c.args.front.front (Site c.args.front.site) in
    let came = joined_is H H L r r c.self.inside.records c.into_records.result c.join.new.self c.self.invariant.records c.into_records.ensures c.join.ensures in
    subst (λ (d : LedgerValue). Covers (is_heard (slice_index_or g.N.TurnName.turn.alphabets c.args.front.site [])) c.args.front.front d.entries) c.self.view_is
    (visitor_covers g.N.TurnName.turn.alphabets g.N.TurnName.turn.sessions H L r c.join.new.self came c.hear.ensures.stand)

pub returns-clause-apart : goal.returns-clause-apart
returns-clause-apart g c =
    let H = c.self.inside.journal.entries in
    let L = sites_in c.self.inside.records in
    let r = knowing c.args.front.front (Site c.args.front.site) in
    let came = joined_is H H L r r c.self.inside.records c.into_records.result c.join.new.self c.self.invariant.records c.into_records.ensures c.join.ensures in
    subst (λ (d : LedgerValue). ¬ Contains d.enlisted c.args.front.site) c.self.view_is
    (enlisted_once g.N.TurnName.turn.alphabets g.N.TurnName.turn.sessions H c.args.front.front L c.args.front.site
    (visitor_stands g.N.TurnName.turn.alphabets g.N.TurnName.turn.sessions H L r c.join.new.self came c.hear.ensures.stand))
