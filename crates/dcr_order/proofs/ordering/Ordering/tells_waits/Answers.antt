use Rattle.std.proofs.Common.{refl, sym, arith}
use Rattle.dcr_base.specs.Link.{links_of}
use Rattle.dcr_wire.specs.declared.question.Asked.TheVariants.{Waits}
use Rattle.dcr_order.proofs.BehindLemmas.{behind_same}
use Rattle.dcr_order.proofs.TendLemmas.{asked_behind, knows_waits, ordering_places, ordering_sites, tells_by, tells_none, told_waits, unknown_waits}
use Rattle.dcr_order.proofs.ordering.Ordering.tells_waits.Goals as goal

pub gathered-requires : goal.gathered-requires
gathered-requires g c =
    let stands = c.requires.stands in
    let many = ordering_sites g.D.Disk.view g.D.Disk.faults (links_of g.P.Link.Source.gives g.P.Link.Sink.takes g.P.Link.Rest.Spent.unread g.P.Link.Rest.Spent.sent) g.N.PorterName.links g.N.PorterName.back g.N.PorterName.greets g.N.ClusterName.cluster g.N.TurnName.turn g.N.StoreName.first stands.0 c.args.self.now.node c.args.self.now.places.items (g.P.Porter.tells.back c.args.self.now.porter) c.args.self.now.store stands.1 in
    let site = c.requires.site in omega arith

pub returns-then-is_some-clause-more : goal.returns-then-is_some-clause-more
returns-then-is_some-clause-more g c = tells_none c.args.self.now.node c.args.self.now.node c.args.i refl

pub returns-then-is_some-clause-told : goal.returns-then-is_some-clause-told
returns-then-is_some-clause-told g c = λ result one there. knows_waits c.args.self.now.node c.args.i c.gathered.result.now one c.is_some.result c.gathered.ensures (sym c.is_some.ensures) c.if-is_some.true there

pub returns-then-is_some-clause-behind : goal.returns-then-is_some-clause-behind
returns-then-is_some-clause-behind g c = behind_same (links_of g.P.Link.Source.gives g.P.Link.Sink.takes g.P.Link.Rest.Spent.unread g.P.Link.Rest.Spent.sent) c.args.self.now.places.items (g.P.Porter.tells.back c.args.self.now.porter)

pub returns-clause-more : goal.returns-clause-more
returns-clause-more g c =
    let stands = c.requires.stands in
    let places = ordering_places g.D.Disk.view g.D.Disk.faults (links_of g.P.Link.Source.gives g.P.Link.Sink.takes g.P.Link.Rest.Spent.unread g.P.Link.Rest.Spent.sent) g.N.PorterName.links g.N.PorterName.back g.N.PorterName.greets g.N.ClusterName.cluster g.N.TurnName.turn g.N.StoreName.first stands.0 c.args.self.now.node c.args.self.now.places.items (g.P.Porter.tells.back c.args.self.now.porter) c.args.self.now.store stands.1 in
    let site = c.requires.site in
    tells_by c.args.self.now.node c.tell_end.new.self.node c.args.i Waits c.tell_end.result (omega arith) c.tell_end.ensures.told (λ away. (c.tell_end.ensures.away away).0)

pub returns-clause-told : goal.returns-clause-told
returns-clause-told g c = λ result one there.
    let stands = c.requires.stands in
    let places = ordering_places g.D.Disk.view g.D.Disk.faults (links_of g.P.Link.Source.gives g.P.Link.Sink.takes g.P.Link.Rest.Spent.unread g.P.Link.Rest.Spent.sent) g.N.PorterName.links g.N.PorterName.back g.N.PorterName.greets g.N.ClusterName.cluster g.N.TurnName.turn g.N.StoreName.first stands.0 c.args.self.now.node c.args.self.now.places.items (g.P.Porter.tells.back c.args.self.now.porter) c.args.self.now.store stands.1 in
    let site = c.requires.site in
    told_waits c.args.self.now.node c.tell_end.new.self.node c.args.i (omega arith) (c.tell_end.ensures.told result) one there

pub returns-clause-away : goal.returns-clause-away
returns-clause-away g c = λ result.
    let away = c.tell_end.ensures.away result in
    (away.1, λ one there. unknown_waits c.args.self.now.node c.tell_end.new.self.node c.args.i c.gathered.result.now one c.is_some.result c.gathered.ensures (sym c.is_some.ensures) c.if-is_some.false away.0 there)

pub returns-clause-behind : goal.returns-clause-behind
returns-clause-behind g c = asked_behind (links_of g.P.Link.Source.gives g.P.Link.Sink.takes g.P.Link.Rest.Spent.unread g.P.Link.Rest.Spent.sent) c.args.self.now.node c.args.i Waits c.args.self.now.places.items c.tell_end.new.self.places.items (g.P.Porter.tells.back c.args.self.now.porter) (g.P.Porter.tells.back c.tell_end.new.self.porter) c.tell_end.ensures.asked
