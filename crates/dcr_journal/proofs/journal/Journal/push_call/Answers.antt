use Rattle.std.proofs.Common.{◌≡◌, length, ap, ◌∙◌, arith}
use Rattle.dcr_journal.specs.JournalValue.{History}
use Rattle.dcr_journal.specs.Slots.{outcome_at}
use Rattle.dcr_journal.specs.declared.call.Entry.{Entry}
use Rattle.dcr_journal.specs.declared.call.Outcome.{Outcome}
use Rattle.dcr_journal.proofs.SlotLemmas.{entries_pushed}
use Rattle.dcr_journal.proofs.journal.Journal.push_call.Goals as goal

pub returns-clause-entries : goal.returns-clause-entries
returns-clause-entries c =
    let entry : Entry = record { session = c.args.session; seq = c.args.seq; call = c.args.call.now; outcome = c.args.outcome.now } in
    let place : c.len-place.result ≡ length c.self.inside.row.items = omega (arith, c.self.inside.row.ok.0) in
    let told = ap (λ p. outcome_at c.of-outcome.new.row.items p c.of-outcome.result) place ∙ c.of-outcome.ensures.outcome in
    entries_pushed c.self.inside.row.items c.of-outcome.new.row.items c.self.inside.slots.items c.push_reserved.new.self.items _ c.args.self.now.entries entry
    c.push_reserved.ensures.items c.of-outcome.ensures.grown.front c.self.invariant.kept (ap (λ (seen : History). seen.entries) c.self.view_is)
    (ap (λ (o : Outcome). record { session = entry.session; seq = entry.seq; call = entry.call; outcome = o }) told)
