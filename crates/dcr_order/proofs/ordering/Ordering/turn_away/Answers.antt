use Rattle.std.proofs.Common.{refl}
use Rattle.dcr_base.specs.Link.{links_of}
use Rattle.dcr_order.proofs.TendLemmas.{ordering_taken}
use Rattle.dcr_order.proofs.ordering.Ordering.turn_away.Goals as goal

pub returns-clause-stands : goal.returns-clause-stands
returns-clause-stands g c = λ J stands.
    ordering_taken g.D.Disk.view g.D.Disk.faults (links_of g.P.Link.Source.gives g.P.Link.Sink.takes g.P.Link.Rest.Spent.unread g.P.Link.Rest.Spent.sent) g.N.PorterName.links g.N.PorterName.back g.N.PorterName.greets g.N.ClusterName.cluster g.N.TurnName.turn g.N.StoreName.first J c.args.self.now.node c.args.self.now.places.items (g.P.Porter.tells.back c.args.self.now.porter) c.args.self.now.store stands c.args.guest.number c.finish.result c.args.self.now.node c.args.self.now.places.items (g.P.Porter.tells.back c.take_back.new.self) c.args.self.now.store refl refl refl c.take_back.ensures.back

pub returns-clause-taken : goal.returns-clause-taken
returns-clause-taken g c = record { rest = c.finish.result; unread = c.finish.ensures.unread; sent = c.finish.ensures.sent; has = c.take_back.ensures.back }
