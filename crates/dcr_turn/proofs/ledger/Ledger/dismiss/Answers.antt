use Rattle.std.proofs.Common.{◌≡◌, ℕ, List, [], ◌∷◌, length, sym, refl, ap, ◌∙◌, subst}
use Rattle.std.specs.List.{Contains}
use Rattle.dcr_journal.specs.declared.call.Entry.{Entry}
use Rattle.dcr_turn.specs.LedgerValue.{LedgerValue}
use Rattle.dcr_turn.specs.Pushing.{without_first}
use Rattle.dcr_turn.specs.Records.{knowing, first_seen, sites_in, all_know, only}
use Rattle.dcr_turn.specs.declared.record.Holder.TheVariants.{Site}
use Rattle.dcr_turn.specs.declared.record.Record.{Record}
use Rattle.dcr_turn.proofs.Visiting.{ledger_again, enlisted_is, left_is, taken_is}
use Rattle.dcr_turn.proofs.ledger.Ledger.dismiss.Goals as goal

pub take_out-records-requires : goal.take_out-records-requires
take_out-records-requires g c = refl

-- the record that was taken out
taken : (J : List Entry) (i : ℕ) (sites enlisted : List ℕ) (records out : List Record) → records ≡ all_know J sites → sites ≡ enlisted → Contains enlisted i
    → out ≡ only (Site i) records → out ≡ knowing J (Site i) ∷ []
taken J i sites enlisted records out is same there out_is = taken_is J i sites records out is (subst (λ (l : List ℕ). Contains l i) (sym same) there) out_is

pub new-requires-clause-records : goal.new-requires-clause-records
new-requires-clause-records g c =
    let out = taken c.self.inside.journal.entries c.args.site (sites_in c.self.inside.records) c.args.self.now.enlisted c.self.inside.records c.take_out-records.result
    c.self.invariant.records (ap (λ (d : LedgerValue). d.enlisted) c.self.view_is) c.requires c.take_out-records.ensures.out in
    out ∙ ap (λ (J : List Entry). knowing J (Site c.args.site) ∷ []) (sym (ap first_seen out))

pub new-requires-clause-seen : goal.new-requires-clause-seen
new-requires-clause-seen g c =
    let out = taken c.self.inside.journal.entries c.args.site (sites_in c.self.inside.records) c.args.self.now.enlisted c.self.inside.records c.take_out-records.result
    c.self.invariant.records (ap (λ (d : LedgerValue). d.enlisted) c.self.view_is) c.requires c.take_out-records.ensures.out in
    c.len.ensures.len ∙ sym (ap (λ (v : List Record). length (first_seen v)) out)

pub invariant_of-self : goal.invariant_of-self
invariant_of-self g c = record {
  records = ledger_again c.take_out-records.new.self c.self.inside.journal.entries (without_first c.args.site (sites_in c.self.inside.records))
      (left_is c.self.inside.journal.entries c.args.site (sites_in c.self.inside.records) c.self.inside.records c.take_out-records.new.self c.self.invariant.records c.take_out-records.ensures.kept);
  capacity = c.self.invariant.capacity;
  faulted = c.self.invariant.faulted;
}

pub returns-clause-enlisted : goal.returns-clause-enlisted
returns-clause-enlisted g c =
    enlisted_is c.take_out-records.new.self c.self.inside.journal.entries (without_first c.args.site (sites_in c.self.inside.records))
    (left_is c.self.inside.journal.entries c.args.site (sites_in c.self.inside.records) c.self.inside.records c.take_out-records.new.self c.self.invariant.records c.take_out-records.ensures.kept)
    ∙ ap (λ (d : LedgerValue). without_first c.args.site d.enlisted) c.self.view_is

pub returns-clause-front : goal.returns-clause-front
returns-clause-front g c =
    let out = taken c.self.inside.journal.entries c.args.site (sites_in c.self.inside.records) c.args.self.now.enlisted c.self.inside.records c.take_out-records.result
    c.self.invariant.records (ap (λ (d : LedgerValue). d.enlisted) c.self.view_is) c.requires c.take_out-records.ensures.out in
    c.new.ensures.front ∙ ap first_seen out ∙ ap (λ (d : LedgerValue). d.entries) c.self.view_is
