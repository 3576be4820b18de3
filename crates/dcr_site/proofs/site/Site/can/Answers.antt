use Rattle.std.proofs.Common.{◌<◌, length, sym, ap, subst, ◌∙◌}
use Rattle.std.proofs.lemmas.Bool.{and_parts}
use Rattle.std.proofs.lemmas.List.Elements.{All-same, All-rest}
use Rattle.std.specs.Option.{is_none}
use Rattle.dcr_set.specs.EventSet.{has, no_event, numbers}
use Rattle.dcr_set.proofs.NumbersLemmas.{numbers-below}
use Rattle.dcr_graph.specs.Cause.{cause, is_enabled_in}
use Rattle.dcr_graph.proofs.GatheredLemmas.{Gathers, gathers_none, gathers_more, gathers_same, gathers_all}
use Rattle.dcr_site.proofs.site.Site.can.Goals as goal

pub loop-e-init : goal.loop-e-init
loop-e-init c =
    let own = c.args.self.now.projection.own in
    let all = c.into_iter-e-iterator.ensures.into_iter_gives ∙ c.iter-e-items.ensures ∙ ap numbers (c.own.ensures.own ∙ ap (λ site. site.projection.own) c.self.view_is) in
    record {
      room = c.new-can.ensures.room ∙ c.atoms.ensures.own;
      owned = All-same (λ e. e < length own) c.into_iter-e-iterator.result (numbers own) all (numbers-below own);
      enabled = λ G S M at.
          subst (λ s. Gathers G.atoms (is_enabled_in G S M) s c.into_iter-e-iterator.result) (sym (c.new-can.ensures.empty ∙ ap no_event (c.atoms.ensures.stands G S M at)))
          (gathers_none G.atoms (is_enabled_in G S M) own c.into_iter-e-iterator.result all (λ k passes.
          ap (λ P. has P.own k) at.projection ∙ (and_parts (has S k) (is_none (cause G M k)) passes).0));
    }

pub loop-e-preserved-then-enables : goal.loop-e-preserved-then-enables
loop-e-preserved-then-enables c =
    let before = c.loop-e.invariant in
    record {
      room = c.insert.ensures.room ∙ before.room;
      owned = All-rest (λ e. e < length c.args.self.now.projection.own) c.in-Some.e c.next.new.self c.loop-e.e-iterator c.in-Some.ensures.steps before.owned;
      enabled = λ G S M at.
          let p = is_enabled_in G S M in
          subst (λ s. Gathers G.atoms p s c.next.new.self) (sym c.insert.ensures.added)
          (gathers_more G.atoms p c.loop-e.can c.in-Some.e c.next.new.self c.loop-e.e-iterator (before.room ∙ sym c.atoms.ensures.own ∙ c.atoms.ensures.stands G S M at)
          c.in-Some.ensures.steps (sym (c.enables.ensures G S M at) ∙ c.if-enables.true) (before.enabled G S M at));
    }

pub loop-e-preserved : goal.loop-e-preserved
loop-e-preserved c =
    let before = c.loop-e.invariant in
    record {
      room = before.room;
      owned = All-rest (λ e. e < length c.args.self.now.projection.own) c.in-Some.e c.next.new.self c.loop-e.e-iterator c.in-Some.ensures.steps before.owned;
      enabled = λ G S M at.
          gathers_same G.atoms (is_enabled_in G S M) c.loop-e.can c.in-Some.e c.next.new.self c.loop-e.e-iterator
          c.in-Some.ensures.steps (sym (c.enables.ensures G S M at) ∙ c.if-enables.false) (before.enabled G S M at);
    }

pub returns-clause-enabled : goal.returns-clause-enabled
returns-clause-enabled c = λ G S M at.
    gathers_all G.atoms (is_enabled_in G S M) c.loop-e.can c.loop-e.e-iterator
    (c.loop-e.invariant.room ∙ sym c.atoms.ensures.own ∙ c.atoms.ensures.stands G S M at) c.in-None.ensures.steps.0 (c.loop-e.invariant.enabled G S M at)
