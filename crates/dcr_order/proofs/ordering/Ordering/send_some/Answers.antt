use Rattle.std.proofs.Common.{length, refl, ap, arith}
use Rattle.dcr_base.specs.Link.{links_of}
use Rattle.dcr_node.specs.JournalState.{JournalState}
use Rattle.dcr_order.specs.Tending.{nothing}
use Rattle.dcr_order.proofs.TendLemmas.{ordering_has_room, ordering_many, ordering_sites, ordering_tells}
use Rattle.dcr_order.proofs.ordering.Ordering.send_some.Goals as goal

pub is_late-requires-clause-place : goal.is_late-requires-clause-place
is_late-requires-clause-place g c =
    let stands = c.requires.stands in
    let many = ordering_many g.D.Disk.view g.D.Disk.faults (links_of g.P.Link.Source.gives g.P.Link.Sink.takes g.P.Link.Rest.Spent.unread g.P.Link.Rest.Spent.sent) g.N.PorterName.links g.N.PorterName.back g.N.PorterName.greets g.N.ClusterName.cluster g.N.TurnName.turn g.N.StoreName.first stands.0 c.args.self.now.node c.args.self.now.places.items (g.P.Porter.tells.back c.args.self.now.porter) c.args.self.now.store stands.1 in
    let site = c.requires.site in omega arith

pub is_late-requires-clause-site : goal.is_late-requires-clause-site
is_late-requires-clause-site g c =
    let stands = c.requires.stands in
    let many = ordering_sites g.D.Disk.view g.D.Disk.faults (links_of g.P.Link.Source.gives g.P.Link.Sink.takes g.P.Link.Rest.Spent.unread g.P.Link.Rest.Spent.sent) g.N.PorterName.links g.N.PorterName.back g.N.PorterName.greets g.N.ClusterName.cluster g.N.TurnName.turn g.N.StoreName.first stands.0 c.args.self.now.node c.args.self.now.places.items (g.P.Porter.tells.back c.args.self.now.porter) c.args.self.now.store stands.1 in
    let site = c.requires.site in omega arith

pub returns-then-not-is_late-clause-tells : goal.returns-then-not-is_late-clause-tells
returns-then-not-is_late-clause-tells g c = nothing (c.is_late.ensures.told c.if-not-is_late.true) refl refl

pub send-requires-clause-late : goal.send-requires-clause-late
send-requires-clause-late g c = c.is_late.ensures.late c.if-not-is_late.false

pub send-requires-clause-site : goal.send-requires-clause-site
send-requires-clause-site g c =
    let stands = c.requires.stands in
    let many = ordering_sites g.D.Disk.view g.D.Disk.faults (links_of g.P.Link.Source.gives g.P.Link.Sink.takes g.P.Link.Rest.Spent.unread g.P.Link.Rest.Spent.sent) g.N.PorterName.links g.N.PorterName.back g.N.PorterName.greets g.N.ClusterName.cluster g.N.TurnName.turn g.N.StoreName.first stands.0 c.args.self.now.node c.args.self.now.places.items (g.P.Porter.tells.back c.args.self.now.porter) c.args.self.now.store stands.1 in
    let site = c.requires.site in omega arith

pub send-requires-clause-places : goal.send-requires-clause-places
send-requires-clause-places g c =
    let stands = c.requires.stands in
    ordering_has_room g.D.Disk.view g.D.Disk.faults (links_of g.P.Link.Source.gives g.P.Link.Sink.takes g.P.Link.Rest.Spent.unread g.P.Link.Rest.Spent.sent) g.N.PorterName.links g.N.PorterName.back g.N.PorterName.greets g.N.ClusterName.cluster g.N.TurnName.turn g.N.StoreName.first stands.0 c.args.self.now.node c.args.self.now.places.items (g.P.Porter.tells.back c.args.self.now.porter) c.args.self.now.store stands.1

pub is_late-requires-2-clause-place : goal.is_late-requires-2-clause-place
is_late-requires-2-clause-place g c =
    let stands = c.requires.stands in
    let many = ordering_many g.D.Disk.view g.D.Disk.faults (links_of g.P.Link.Source.gives g.P.Link.Sink.takes g.P.Link.Rest.Spent.unread g.P.Link.Rest.Spent.sent) g.N.PorterName.links g.N.PorterName.back g.N.PorterName.greets g.N.ClusterName.cluster g.N.TurnName.turn g.N.StoreName.first stands.0 c.args.self.now.node c.args.self.now.places.items (g.P.Porter.tells.back c.args.self.now.porter) c.args.self.now.store stands.1 in
    let kept = c.send.ensures.many in
    let site = c.requires.site in omega arith

pub is_late-requires-2-clause-site : goal.is_late-requires-2-clause-site
is_late-requires-2-clause-site g c =
    let stands = c.requires.stands in
    let many = ordering_sites g.D.Disk.view g.D.Disk.faults (links_of g.P.Link.Source.gives g.P.Link.Sink.takes g.P.Link.Rest.Spent.unread g.P.Link.Rest.Spent.sent) g.N.PorterName.links g.N.PorterName.back g.N.PorterName.greets g.N.ClusterName.cluster g.N.TurnName.turn g.N.StoreName.first stands.0 c.args.self.now.node c.args.self.now.places.items (g.P.Porter.tells.back c.args.self.now.porter) c.args.self.now.store stands.1 in
    let kept = ap (λ (j : JournalState). length j.alphabets) c.send.ensures.node in
    let site = c.requires.site in omega arith

pub returns-clause-stands : goal.returns-clause-stands
returns-clause-stands g c = λ J stands.
    ordering_tells g.D.Disk.view g.D.Disk.faults (links_of g.P.Link.Source.gives g.P.Link.Sink.takes g.P.Link.Rest.Spent.unread g.P.Link.Rest.Spent.sent) g.N.PorterName.links g.N.PorterName.back g.N.PorterName.greets g.N.ClusterName.cluster g.N.TurnName.turn g.N.StoreName.first J c.args.self.now.node c.args.self.now.places.items (g.P.Porter.tells.back c.args.self.now.porter) c.args.self.now.store stands c.args.i c.send.new.self.node c.send.new.self.places.items (g.P.Porter.tells.back c.send.new.self.porter) c.send.new.self.store c.send.ensures.node c.send.ensures.store c.send.ensures.tells
