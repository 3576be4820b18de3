use Rattle.std.proofs.Common.{◌≡◌, List, [], ◌∷◌, ◌++◌, length, sym, refl, ap, ◌∙◌, subst}
use Rattle.dcr_journal.specs.Run.{made_by}
use Rattle.dcr_journal.specs.declared.call.Entry.{Entry}
use Rattle.dcr_turn.specs.LedgerValue.{LedgerValue}
use Rattle.dcr_turn.specs.PassModel.{seen_in}
use Rattle.dcr_turn.specs.PassValue.{PassValue}
use Rattle.dcr_turn.specs.Pushing.{AllHear, ends_in_fault}
use Rattle.dcr_turn.specs.Records.{knowing, sites_in, all_know}
use Rattle.dcr_turn.specs.declared.record.Holder.TheVariants.{Session}
use Rattle.dcr_turn.specs.declared.record.Record.{Record}
use Rattle.dcr_turn.proofs.Faults.{fault_pushed}
use Rattle.dcr_turn.proofs.Passing.{one_view, seen_is, made_one_more}
use Rattle.dcr_turn.proofs.Visiting.{ledger_again, enlisted_is, joined_is, published_is, kept_is, cut_is, all_here}
use Rattle.dcr_turn.proofs.ledger.Ledger.push.Goals as goal

pub publish-requires-clause-concerned : goal.publish-requires-clause-concerned
publish-requires-clause-concerned g c =
    let H = c.self.inside.journal.entries in
    let L = sites_in c.self.inside.records in
    let F = seen_in c.pass.inside in
    let r = knowing F (Session c.pass.inside.session) in
    let one = one_view c.out_of.result (r ∷ []) (sym c.out_of.ensures ∙ c.pass.invariant.views) in
    let came = joined_is H H L r r c.self.inside.records c.out_of.result c.join.new.self c.self.invariant.records one c.join.ensures in
    let hear : AllHear g.N.TurnName.turn.alphabets L c.args.call c.args.outcome.now =
    subst (λ (d : LedgerValue). AllHear g.N.TurnName.turn.alphabets d.enlisted c.args.call c.args.outcome.now) (sym c.self.view_is) c.requires.hear in
    rw came (all_here g.N.TurnName.turn.alphabets g.N.TurnName.turn.sessions H F L c.pass.inside.session c.pass.inside.made c.args.call c.args.outcome.now hear)

pub invariant_of-self : goal.invariant_of-self
invariant_of-self g c =
    let H = c.self.inside.journal.entries in
    let L = sites_in c.self.inside.records in
    let x = Session c.pass.inside.session in
    let r = knowing (seen_in c.pass.inside) x in
    let e : Entry = record { session = c.pass.inside.session; seq = c.pass.inside.made; call = c.args.call; outcome = c.args.outcome.now } in
    let one = one_view c.out_of.result (r ∷ []) (sym c.out_of.ensures ∙ c.pass.invariant.views) in
    let came = joined_is H H L r r c.self.inside.records c.out_of.result c.join.new.self c.self.invariant.records one c.join.ensures in
    let told = published_is H H L r r c.join.new.self c.out_of.result c.publish.new.self e came c.publish.ensures in
    let rest = kept_is H (H ++ e ∷ []) L r (knowing (H ++ e ∷ []) x) c.publish.new.self c.out_of.result c.cut.new.self told c.cut.ensures.kept in record {
      records = ledger_again c.cut.new.self c.push_call.new.self.entries L (rest ∙ ap (λ (J : List Entry). all_know J L) (sym c.push_call.ensures.entries));
      capacity = c.push_call.ensures.capacity ∙ c.self.invariant.capacity;
      faulted = c.is_fault_told-faulted.ensures ∙ sym (fault_pushed H e) ∙ ap ends_in_fault (sym c.push_call.ensures.entries);
    }

pub invariant_of-pass : goal.invariant_of-pass
invariant_of-pass g c =
    let H = c.self.inside.journal.entries in
    let L = sites_in c.self.inside.records in
    let x = Session c.pass.inside.session in
    let r = knowing (seen_in c.pass.inside) x in
    let e : Entry = record { session = c.pass.inside.session; seq = c.pass.inside.made; call = c.args.call; outcome = c.args.outcome.now } in
    let one = one_view c.out_of.result (r ∷ []) (sym c.out_of.ensures ∙ c.pass.invariant.views) in
    let came = joined_is H H L r r c.self.inside.records c.out_of.result c.join.new.self c.self.invariant.records one c.join.ensures in
    let told = published_is H H L r r c.join.new.self c.out_of.result c.publish.new.self e came c.publish.ensures in
    let gone = cut_is H (H ++ e ∷ []) L r (knowing (H ++ e ∷ []) x) c.publish.new.self c.out_of.result c.cut.result told c.cut.ensures.cut in
    let seen = seen_is c.into_badge.result.views c.cut.result (knowing (H ++ e ∷ []) x) c.into_badge.ensures.views gone in
    let met : seen_in c.pass.inside ≡ H = ap (λ (p : PassValue). p.front) c.pass.view_is ∙ c.requires.met ∙ sym (ap (λ (d : LedgerValue). d.entries) c.self.view_is) in
    let more = made_one_more c.pass.inside.session c.pass.inside.made H e refl (c.pass.invariant.made ∙ ap (made_by c.pass.inside.session) met) in record {
      mark = c.into_badge.ensures.mark;
      views = c.into_badge.ensures.views ∙ ap (λ (v : List Record). v ∷ []) gone ∙ ap (λ (J : List Entry). (knowing J x ∷ []) ∷ []) (sym seen);
      seen = c.len-pass-inside.ensures.len ∙ ap length (c.push_call.ensures.entries ∙ sym seen);
      made = more ∙ ap (made_by c.pass.inside.session) (sym seen);
      session = c.pass.invariant.session;
    }

pub returns-clause-enlisted : goal.returns-clause-enlisted
returns-clause-enlisted g c =
    let H = c.self.inside.journal.entries in
    let L = sites_in c.self.inside.records in
    let x = Session c.pass.inside.session in
    let r = knowing (seen_in c.pass.inside) x in
    let e : Entry = record { session = c.pass.inside.session; seq = c.pass.inside.made; call = c.args.call; outcome = c.args.outcome.now } in
    let one = one_view c.out_of.result (r ∷ []) (sym c.out_of.ensures ∙ c.pass.invariant.views) in
    let came = joined_is H H L r r c.self.inside.records c.out_of.result c.join.new.self c.self.invariant.records one c.join.ensures in
    let told = published_is H H L r r c.join.new.self c.out_of.result c.publish.new.self e came c.publish.ensures in
    let rest = kept_is H (H ++ e ∷ []) L r (knowing (H ++ e ∷ []) x) c.publish.new.self c.out_of.result c.cut.new.self told c.cut.ensures.kept in
    enlisted_is c.cut.new.self (H ++ e ∷ []) L rest ∙ ap (λ (d : LedgerValue). d.enlisted) c.self.view_is
