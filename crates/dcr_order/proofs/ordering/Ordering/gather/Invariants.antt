-- The sites so far have told, and no link is lost.
use Rattle.std.proofs.Common.{◌≡◌, List}
use Rattle.dcr_base.specs.Link.{links_of}
use Rattle.dcr_journal.specs.declared.call.Entry.{Entry}
use Rattle.dcr_order.specs.Behind.{IsBehind}
use Rattle.dcr_order.specs.Orders.{IsOrdering}
use Rattle.dcr_order.specs.Tending.{HaveTold, OnlyGathers}
use Rattle.dcr_order.proofs.ordering.Ordering.gather.Given as goal

abbrev pub invariant-loop-number : goal.invariant-loop-number
invariant-loop-number g l =
    ((J : List Entry) → IsOrdering g.D.Disk.view g.D.Disk.faults (links_of g.P.Link.Source.gives g.P.Link.Sink.takes g.P.Link.Rest.Spent.unread g.P.Link.Rest.Spent.sent) g.N.PorterName.links g.N.PorterName.back g.N.PorterName.greets g.N.ClusterName.cluster g.N.TurnName.turn g.N.StoreName.first J l.initial.self.node l.initial.self.places.items (g.P.Porter.tells.back l.initial.self.porter) l.initial.self.store → IsOrdering g.D.Disk.view g.D.Disk.faults (links_of g.P.Link.Source.gives g.P.Link.Sink.takes g.P.Link.Rest.Spent.unread g.P.Link.Rest.Spent.sent) g.N.PorterName.links g.N.PorterName.back g.N.PorterName.greets g.N.ClusterName.cluster g.N.TurnName.turn g.N.StoreName.first J l.self.node l.self.places.items (g.P.Porter.tells.back l.self.porter) l.self.store)
    × OnlyGathers l.initial.self.node l.self.node
    × HaveTold l.self.node l.number
    × IsBehind (links_of g.P.Link.Source.gives g.P.Link.Sink.takes g.P.Link.Rest.Spent.unread g.P.Link.Rest.Spent.sent) l.initial.self.places.items (g.P.Porter.tells.back l.initial.self.porter) l.self.places.items (g.P.Porter.tells.back l.self.porter)
    × (l.self.given ≡ l.initial.self.given)
    × (g.P.Porter.tells.links l.self.porter ≡ g.P.Porter.tells.links l.initial.self.porter)
    × (g.P.Porter.tells.faults l.self.porter ≡ g.P.Porter.tells.faults l.initial.self.porter)
