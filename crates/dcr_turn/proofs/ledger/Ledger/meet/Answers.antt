use Rattle.std.proofs.Common.{ℕ, List, [], ◌∷◌, length, sym, ap, ◌∙◌, subst}
use Rattle.dcr_journal.specs.Run.{made_by}
use Rattle.dcr_journal.specs.declared.call.Entry.{Entry}
use Rattle.dcr_turn.specs.Covers.{is_by}
use Rattle.dcr_turn.specs.LedgerValue.{LedgerValue}
use Rattle.dcr_turn.specs.PassModel.{seen_in}
use Rattle.dcr_turn.specs.PassValue.{PassValue, HasMadeAll}
use Rattle.dcr_turn.specs.Records.{knowing, sites_in}
use Rattle.dcr_turn.specs.declared.record.Holder.TheVariants.{Session}
use Rattle.dcr_turn.specs.declared.record.Record.{Record}
use Rattle.dcr_turn.proofs.Covering.{covers_count}
use Rattle.dcr_turn.proofs.Passing.{one_view, seen_is, made_all}
use Rattle.dcr_turn.proofs.Visiting.{ledger_again, enlisted_is, joined_is, heard_is, kept_is, cut_is, visitor_covers}
use Rattle.dcr_turn.proofs.ledger.Ledger.meet.Goals as goal

pub invariant_of-self : goal.invariant_of-self
invariant_of-self g c =
    let H = c.self.inside.journal.entries in
    let L = sites_in c.self.inside.records in
    let x = Session c.pass.inside.session in
    let r = knowing (seen_in c.pass.inside) x in
    let one = one_view c.out_of.result (r ∷ []) (sym c.out_of.ensures ∙ c.pass.invariant.views) in
    let came = joined_is H H L r r c.self.inside.records c.out_of.result c.join.new.self c.self.invariant.records one c.join.ensures in
    let heard = heard_is H H L r r c.join.new.self c.out_of.result c.hear.new.self came c.hear.ensures.told in
    record { records = ledger_again c.cut.new.self H L (kept_is H H L r (knowing H x) c.hear.new.self c.out_of.result c.cut.new.self heard c.cut.ensures.kept); capacity = c.self.invariant.capacity; faulted = c.self.invariant.faulted }

pub invariant_of-pass : goal.invariant_of-pass
invariant_of-pass g c =
    let H = c.self.inside.journal.entries in
    let L = sites_in c.self.inside.records in
    let x = Session c.pass.inside.session in
    let r = knowing (seen_in c.pass.inside) x in
    let one = one_view c.out_of.result (r ∷ []) (sym c.out_of.ensures ∙ c.pass.invariant.views) in
    let came = joined_is H H L r r c.self.inside.records c.out_of.result c.join.new.self c.self.invariant.records one c.join.ensures in
    let heard = heard_is H H L r r c.join.new.self c.out_of.result c.hear.new.self came c.hear.ensures.told in
    let gone = cut_is H H L r (knowing H x) c.hear.new.self c.out_of.result c.cut.result heard c.cut.ensures.cut in
    let seen = seen_is c.into_badge.result.views c.cut.result (knowing H x) c.into_badge.ensures.views gone in
    let covers = visitor_covers g.N.TurnName.turn.alphabets g.N.TurnName.turn.sessions H L r c.join.new.self came c.hear.ensures.stand in record {
      mark = c.into_badge.ensures.mark;
      views = c.into_badge.ensures.views ∙ ap (λ (v : List Record). v ∷ []) gone ∙ ap (λ (J : List Entry). (knowing J x ∷ []) ∷ []) (sym seen);
      seen = c.len-pass-inside.ensures.len ∙ ap length (sym seen);
      made = c.pass.invariant.made ∙ covers_count (is_by c.pass.inside.session) (seen_in c.pass.inside) H covers ∙ ap (made_by c.pass.inside.session) (sym seen);
      session = c.pass.invariant.session;
    }

pub returns-clause-same : goal.returns-clause-same
returns-clause-same g c =
    let H = c.self.inside.journal.entries in
    let L = sites_in c.self.inside.records in
    let x = Session c.pass.inside.session in
    let r = knowing (seen_in c.pass.inside) x in
    let one = one_view c.out_of.result (r ∷ []) (sym c.out_of.ensures ∙ c.pass.invariant.views) in
    let came = joined_is H H L r r c.self.inside.records c.out_of.result c.join.new.self c.self.invariant.records one c.join.ensures in
    let heard = heard_is H H L r r c.join.new.self c.out_of.result c.hear.new.self came c.hear.ensures.told in
    let rest = kept_is H H L r (knowing H x) c.hear.new.self c.out_of.result c.cut.new.self heard c.cut.ensures.kept in
    ap (λ (l : List ℕ). record { entries = H; enlisted = l }) (enlisted_is c.cut.new.self H L rest) ∙ c.self.view_is

pub returns-clause-seen : goal.returns-clause-seen
returns-clause-seen g c =
    let H = c.self.inside.journal.entries in
    let L = sites_in c.self.inside.records in
    let r = knowing (seen_in c.pass.inside) (Session c.pass.inside.session) in
    let one = one_view c.out_of.result (r ∷ []) (sym c.out_of.ensures ∙ c.pass.invariant.views) in
    let came = joined_is H H L r r c.self.inside.records c.out_of.result c.join.new.self c.self.invariant.records one c.join.ensures in
    let covers = visitor_covers g.N.TurnName.turn.alphabets g.N.TurnName.turn.sessions H L r c.join.new.self came c.hear.ensures.stand in
    subst (λ (p : PassValue). HasMadeAll p c.args.self.now.entries) c.pass.view_is
    (subst (λ (d : LedgerValue). HasMadeAll record { session = c.pass.inside.session; front = seen_in c.pass.inside; made = c.pass.inside.made } d.entries) c.self.view_is
    (made_all c.pass.inside.session c.pass.inside.made (seen_in c.pass.inside) H c.pass.invariant.made covers))
