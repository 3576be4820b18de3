use Rattle.std.proofs.Common.{◌≡◌, ℕ, List, [], ◌∷◌, length, sym, ap, ◌∙◌, subst, max}
use Rattle.dcr_journal.specs.Run.{made_by}
use Rattle.dcr_journal.specs.declared.call.Entry.{Entry}
use Rattle.dcr_turn.specs.Covers.{is_by}
use Rattle.dcr_turn.specs.PassModel.{seen_in}
use Rattle.dcr_turn.specs.PassValue.{PassValue, HasMadeAll}
use Rattle.dcr_turn.specs.Records.{knowing}
use Rattle.dcr_turn.specs.Steps.{Stand, longer, with_longer, joined, kept}
use Rattle.dcr_turn.specs.declared.record.Holder.TheVariants.{Session}
use Rattle.dcr_turn.specs.declared.record.Record.{Record}
use Rattle.dcr_turn.proofs.Covering.{covers_count}
use Rattle.dcr_turn.proofs.Passing.{one_view, seen_is, made_all, two, differ, learned, longer_length}
use Rattle.dcr_turn.proofs.pass.Pass.learn.Goals as goal

pub invariant_of-self : goal.invariant_of-self
invariant_of-self g c =
    let A = g.N.TurnName.turn.alphabets in
    let m = g.N.TurnName.turn.sessions in
    let k = c.self.inside.session in
    let l = c.from.inside.session in
    let F = seen_in c.self.inside in
    let G = seen_in c.from.inside in
    let pair = two A m k l F G in
    let mine = one_view c.out_of-both.result (knowing F (Session k) ∷ []) (sym c.out_of-both.ensures ∙ c.self.invariant.views) in
    let theirs = one_view c.out_of.result (knowing G (Session l) ∷ []) (sym c.out_of.ensures ∙ c.from.invariant.views) in
    let came : c.join.new.self ≡ pair = c.join.ensures ∙ ap (λ (v : List Record). joined v c.out_of.result) mine ∙ ap (joined (knowing F (Session k) ∷ [])) theirs in
    let stand = subst (λ (v : List Record). Stand A m v c.compare.ensures.stand.0) came c.compare.ensures.stand.1 in
    let compared : c.compare.new.self ≡ with_longer pair = c.compare.ensures.longer ∙ ap with_longer came in
    let left : c.cut.new.self ≡ knowing (longer F G) (Session k) ∷ [] = c.cut.ensures.kept ∙ ap kept compared in
    let seen = seen_is c.into_badge-2.result.views c.cut.new.self (knowing (longer F G) (Session k)) c.into_badge-2.ensures.views left in
    let both = learned A m k l F G c.compare.ensures.stand.0 stand in
    record {
      mark = c.into_badge-2.ensures.mark;
      views = c.into_badge-2.ensures.views ∙ ap (λ (v : List Record). v ∷ []) left ∙ ap (λ (J : List Entry). (knowing J (Session k) ∷ []) ∷ []) (sym seen);
      seen = c.max-self-inside.ensures ∙ ap (λ (n : ℕ). max n c.from.inside.seen) c.self.invariant.seen ∙ ap (max (length F)) c.from.invariant.seen ∙ longer_length F G ∙ ap length (sym seen);
      made = c.self.invariant.made ∙ covers_count (is_by k) F (longer F G) both.0 ∙ ap (made_by k) (sym seen);
      session = c.self.invariant.session;
    }

pub returns-clause-to_seen : goal.returns-clause-to_seen
returns-clause-to_seen g c =
    let A = g.N.TurnName.turn.alphabets in
    let m = g.N.TurnName.turn.sessions in
    let k = c.self.inside.session in
    let l = c.from.inside.session in
    let F = seen_in c.self.inside in
    let G = seen_in c.from.inside in
    let pair = two A m k l F G in
    let mine = one_view c.out_of-both.result (knowing F (Session k) ∷ []) (sym c.out_of-both.ensures ∙ c.self.invariant.views) in
    let theirs = one_view c.out_of.result (knowing G (Session l) ∷ []) (sym c.out_of.ensures ∙ c.from.invariant.views) in
    let came : c.join.new.self ≡ pair = c.join.ensures ∙ ap (λ (v : List Record). joined v c.out_of.result) mine ∙ ap (joined (knowing F (Session k) ∷ [])) theirs in
    let stand = subst (λ (v : List Record). Stand A m v c.compare.ensures.stand.0) came c.compare.ensures.stand.1 in
    let compared : c.compare.new.self ≡ with_longer pair = c.compare.ensures.longer ∙ ap with_longer came in
    let left : c.cut.new.self ≡ knowing (longer F G) (Session k) ∷ [] = c.cut.ensures.kept ∙ ap kept compared in
    let seen = seen_is c.into_badge-2.result.views c.cut.new.self (knowing (longer F G) (Session k)) c.into_badge-2.ensures.views left in
    let both = learned A m k l F G c.compare.ensures.stand.0 stand in
    subst (λ (p : PassValue). HasMadeAll p (seen_in record { session = k; seen = c.max-self-inside.result; made = c.self.inside.made; badge = c.into_badge-2.result; of = c.self.inside.of })) c.self.view_is
    (subst (HasMadeAll record { session = k; front = F; made = c.self.inside.made }) (sym seen) (made_all k c.self.inside.made F (longer F G) c.self.invariant.made both.0))

pub returns-clause-from_seen : goal.returns-clause-from_seen
returns-clause-from_seen g c =
    let A = g.N.TurnName.turn.alphabets in
    let m = g.N.TurnName.turn.sessions in
    let k = c.self.inside.session in
    let l = c.from.inside.session in
    let F = seen_in c.self.inside in
    let G = seen_in c.from.inside in
    let pair = two A m k l F G in
    let mine = one_view c.out_of-both.result (knowing F (Session k) ∷ []) (sym c.out_of-both.ensures ∙ c.self.invariant.views) in
    let theirs = one_view c.out_of.result (knowing G (Session l) ∷ []) (sym c.out_of.ensures ∙ c.from.invariant.views) in
    let came : c.join.new.self ≡ pair = c.join.ensures ∙ ap (λ (v : List Record). joined v c.out_of.result) mine ∙ ap (joined (knowing F (Session k) ∷ [])) theirs in
    let stand = subst (λ (v : List Record). Stand A m v c.compare.ensures.stand.0) came c.compare.ensures.stand.1 in
    let compared : c.compare.new.self ≡ with_longer pair = c.compare.ensures.longer ∙ ap with_longer came in
    let left : c.cut.new.self ≡ knowing (longer F G) (Session k) ∷ [] = c.cut.ensures.kept ∙ ap kept compared in
    let seen = seen_is c.into_badge-2.result.views c.cut.new.self (knowing (longer F G) (Session k)) c.into_badge-2.ensures.views left in
    let both = learned A m k l F G c.compare.ensures.stand.0 stand in
    subst (λ (p : PassValue). HasMadeAll p (seen_in record { session = k; seen = c.max-self-inside.result; made = c.self.inside.made; badge = c.into_badge-2.result; of = c.self.inside.of })) c.from.view_is
    (subst (HasMadeAll record { session = l; front = G; made = c.from.inside.made }) (sym seen) (made_all l c.from.inside.made G (longer F G) c.from.invariant.made both.1))

pub returns-clause-apart : goal.returns-clause-apart
returns-clause-apart g c =
    let A = g.N.TurnName.turn.alphabets in
    let m = g.N.TurnName.turn.sessions in
    let k = c.self.inside.session in
    let l = c.from.inside.session in
    let F = seen_in c.self.inside in
    let G = seen_in c.from.inside in
    let pair = two A m k l F G in
    let mine = one_view c.out_of-both.result (knowing F (Session k) ∷ []) (sym c.out_of-both.ensures ∙ c.self.invariant.views) in
    let theirs = one_view c.out_of.result (knowing G (Session l) ∷ []) (sym c.out_of.ensures ∙ c.from.invariant.views) in
    let came : c.join.new.self ≡ pair = c.join.ensures ∙ ap (λ (v : List Record). joined v c.out_of.result) mine ∙ ap (joined (knowing F (Session k) ∷ [])) theirs in
    let stand = subst (λ (v : List Record). Stand A m v c.compare.ensures.stand.0) came c.compare.ensures.stand.1 in
    let apart = differ A m k l F G c.compare.ensures.stand.0 stand in
    λ same. apart (ap (λ (p : PassValue). p.session) c.self.view_is ∙ same ∙ sym (ap (λ (p : PassValue). p.session) c.from.view_is))
