use Rattle.std.proofs.Common.{◌≡◌, ◌<◌, ℕ, length, replicate, refl, sym, ap, ◌∙◌, arith}
use Rattle.std.proofs.lemmas.List.{take_all}
use Rattle.dcr_base.specs.Link.{links_of}
use Rattle.dcr_order.specs.declared.place.Place.TheVariants.{Away}
use Rattle.dcr_order.proofs.BehindLemmas.{behind_further, behind_same, ends_behind}
use Rattle.dcr_order.proofs.TendLemmas.{gone_more}
use Rattle.dcr_order.proofs.ordering.Ordering.end_all.Goals as goal

pub loop-number-init : goal.loop-number-init
loop-number-init g c = (refl, refl, refl, refl, behind_same (links_of g.P.Link.Source.gives g.P.Link.Sink.takes g.P.Link.Rest.Spent.unread g.P.Link.Rest.Spent.sent) c.args.self.now.places.items (g.P.Porter.tells.back c.args.self.now.porter), refl, refl, refl)

pub loop-number-preserved : goal.loop-number-preserved
loop-number-preserved g c =
    let sites = c.len-sites.ensures in
    let test = c.loop-number-test.true in
    let long = c.loop-number.invariant.2 in
    let below : c.loop-number.number < length c.loop-number.self.places.items = omega arith in (
      c.end.ensures.node ∙ c.loop-number.invariant.0,
      c.end.ensures.store ∙ c.loop-number.invariant.1,
      c.end.ensures.many ∙ c.loop-number.invariant.2,
      gone_more (links_of g.P.Link.Source.gives g.P.Link.Sink.takes g.P.Link.Rest.Spent.unread g.P.Link.Rest.Spent.sent) c.loop-number.number c.loop-number.self.places.items c.end.new.self.places.items (g.P.Porter.tells.back c.loop-number.self.porter) (g.P.Porter.tells.back c.end.new.self.porter) below c.end.ensures.ended c.loop-number.invariant.3,
      behind_further (links_of g.P.Link.Source.gives g.P.Link.Sink.takes g.P.Link.Rest.Spent.unread g.P.Link.Rest.Spent.sent) c.args.self.now.places.items c.loop-number.self.places.items c.end.new.self.places.items (g.P.Porter.tells.back c.args.self.now.porter) (g.P.Porter.tells.back c.loop-number.self.porter) (g.P.Porter.tells.back c.end.new.self.porter) c.loop-number.invariant.4
          (ends_behind (links_of g.P.Link.Source.gives g.P.Link.Sink.takes g.P.Link.Rest.Spent.unread g.P.Link.Rest.Spent.sent) c.loop-number.number c.loop-number.self.places.items c.end.new.self.places.items (g.P.Porter.tells.back c.loop-number.self.porter) (g.P.Porter.tells.back c.end.new.self.porter) c.end.ensures.ended),
      c.end.ensures.given ∙ c.loop-number.invariant.5,
      c.end.ensures.links ∙ c.loop-number.invariant.6,
      c.end.ensures.faults ∙ c.loop-number.invariant.7,
    )

pub returns-clause-away : goal.returns-clause-away
returns-clause-away g c =
    let sites = c.len-sites.ensures in
    let test = c.loop-number-test.false in
    let long = c.loop-number.invariant.2 in
    let many = c.requires.many in
    let all : c.loop-number.number ≡ length g.N.ClusterName.cluster.owned = omega arith in
    sym (take_all c.loop-number.number c.loop-number.self.places.items (omega arith)) ∙ c.loop-number.invariant.3 ∙ ap (λ (n : ℕ). replicate n Away) all
