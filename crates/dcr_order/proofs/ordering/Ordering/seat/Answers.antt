use Rattle.std.proofs.Common.{ap, ◌∙◌, arith}
use Rattle.dcr_base.specs.Link.{links_of}
use Rattle.dcr_order.proofs.TendLemmas.{ordering_many, ordering_seated}
use Rattle.dcr_order.proofs.ordering.Ordering.seat.Goals as goal

pub is_here-requires : goal.is_here-requires
is_here-requires g c =
    let stands = c.requires.stands in
    let many = ordering_many g.D.Disk.view g.D.Disk.faults (links_of g.P.Link.Source.gives g.P.Link.Sink.takes g.P.Link.Rest.Spent.unread g.P.Link.Rest.Spent.sent) g.N.PorterName.links g.N.PorterName.back g.N.PorterName.greets g.N.ClusterName.cluster g.N.TurnName.turn g.N.StoreName.first stands.0 c.args.self.now.node c.args.self.now.places.items (g.P.Porter.tells.back c.args.self.now.porter) c.args.self.now.store stands.1 in
    let site = c.requires.site in omega arith

pub returns-then-is_here-clause-stands : goal.returns-then-is_here-clause-stands
returns-then-is_here-clause-stands g c = λ J stands. c.turn_away.ensures.stands J (c.tell_end.ensures.stands J stands)

pub returns-then-is_here-clause-node : goal.returns-then-is_here-clause-node
returns-then-is_here-clause-node g c = (c.tell_end.ensures.only.0, c.turn_away.ensures.node ∙ c.tell_end.ensures.only.1)

pub returns-then-is_here-clause-turned_away : goal.returns-then-is_here-clause-turned_away
returns-then-is_here-clause-turned_away g c = λ result. rw c.turn_away.ensures.places (record {
  was_here = c.is_here.ensures.here c.if-is_here.true;
  mid = (g.P.Porter.tells.back c.tell_end.new.self.porter);
  asked = c.tell_end.ensures.asked;
  taken = c.turn_away.ensures.taken;
})

pub put-requires : goal.put-requires
put-requires g c = c.is_here.ensures.away c.if-is_here.false

pub returns-clause-stands : goal.returns-clause-stands
returns-clause-stands g c = λ J stands.
    ordering_seated g.D.Disk.view g.D.Disk.faults (links_of g.P.Link.Source.gives g.P.Link.Sink.takes g.P.Link.Rest.Spent.unread g.P.Link.Rest.Spent.sent) g.N.PorterName.links g.N.PorterName.back g.N.PorterName.greets g.N.ClusterName.cluster g.N.TurnName.turn g.N.StoreName.first J c.args.self.now.node c.args.self.now.places.items (g.P.Porter.tells.back c.args.self.now.porter) c.args.self.now.store stands c.args.i c.args.guest c.put.new.self.node c.put.new.self.places.items (g.P.Porter.tells.back c.seated.new.self) c.put.new.self.store
    (record { was_away = c.is_here.ensures.away c.if-is_here.false; is_here = c.put.ensures.places }) c.requires.greeted c.put.ensures.node (c.seated.ensures.same.back ∙ ap g.P.Porter.tells.back c.put.ensures.porter) c.put.ensures.store

pub returns-clause-node : goal.returns-clause-node
returns-clause-node g c = (c.args.self.now.node.gathered, c.put.ensures.node)

pub returns-clause-seated : goal.returns-clause-seated
returns-clause-seated g c = λ result. ((record { was_away = c.is_here.ensures.away c.if-is_here.false; is_here = c.put.ensures.places }), (c.seated.ensures.same.back ∙ ap g.P.Porter.tells.back c.put.ensures.porter))

pub returns-clause-links : goal.returns-clause-links
returns-clause-links g c = c.seated.ensures.same.links ∙ ap g.P.Porter.tells.links c.put.ensures.porter

pub returns-clause-faults : goal.returns-clause-faults
returns-clause-faults g c = c.seated.ensures.faults ∙ ap g.P.Porter.tells.faults c.put.ensures.porter
