use Rattle.std.proofs.Common.{sym, ap, ◌∙◌}
use Rattle.dcr_base.specs.Link.{links_of}
use Rattle.dcr_order.proofs.LinkLemmas.{room_to_tell}
use Rattle.dcr_order.proofs.TellLemmas.{away_from, told_from}
use Rattle.dcr_order.proofs.ordering.Ordering.tell.Goals as goal

pub returns-in_default-answer-clause-led : goal.returns-in_default-answer-clause-led
returns-in_default-answer-clause-led g c = λ first led.
    away_from (links_of g.P.Link.Source.gives g.P.Link.Sink.takes g.P.Link.Rest.Spent.unread g.P.Link.Rest.Spent.sent) g.N.PorterName.links g.N.PorterName.back g.N.PorterName.greets
    g.N.ClusterName.cluster first c.args.self.now.node c.answer.new.self.node c.args.self.now.places.items c.answer.new.self.places.items (g.P.Porter.tells.back c.args.self.now.porter)
    (g.P.Porter.tells.back c.answer.new.self.porter) c.args.i c.answer.ensures.node c.in_default-answer.ensures.ended led

pub returns-clause-led : goal.returns-clause-led
returns-clause-led g c = λ first led.
    told_from (links_of g.P.Link.Source.gives g.P.Link.Sink.takes g.P.Link.Rest.Spent.unread g.P.Link.Rest.Spent.sent) g.N.PorterName.links g.N.PorterName.back g.N.PorterName.greets
    g.N.ClusterName.cluster first c.args.self.now.node c.answer.new.self.node c.hear.new.self c.args.self.now.places.items c.answer.new.self.places.items
    (g.P.Porter.tells.back c.args.self.now.porter) (g.P.Porter.tells.back c.answer.new.self.porter) c.args.i c.requires.asks c.in-Some.question c.in-Some-answer.answer c.requires.site c.requires.sites
    (sym c.in-Some.is ∙ c.asks.ensures) c.in-Some-answer.ensures.answer c.in-Some-answer.ensures.answers.0 (ap g.P.Porter.tells.back c.in-Some-answer.ensures.answers.1) c.answer.ensures.node
    c.hear.ensures led

pub answer-requires-clause-places : goal.answer-requires-clause-places
answer-requires-clause-places g c =
    room_to_tell (links_of g.P.Link.Source.gives g.P.Link.Sink.takes g.P.Link.Rest.Spent.unread g.P.Link.Rest.Spent.sent) g.N.PorterName.links g.N.PorterName.back g.N.PorterName.greets
    g.N.ClusterName.cluster c.args.self.now.node c.args.self.now.places.items (g.P.Porter.tells.back c.args.self.now.porter) c.requires.sites c.requires.led
