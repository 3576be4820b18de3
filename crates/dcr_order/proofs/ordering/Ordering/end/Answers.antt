use Rattle.std.proofs.Common.{◌∙◌, sym}
use Rattle.dcr_base.specs.Link.{links_of}
use Rattle.dcr_order.proofs.LinkLemmas.{ends_away, ends_here}
use Rattle.dcr_order.proofs.ordering.Ordering.end.Goals as goal

pub returns-in-Away-clause-ended : goal.returns-in-Away-clause-ended
returns-in-Away-clause-ended g c =
    ends_away (links_of g.P.Link.Source.gives g.P.Link.Sink.takes g.P.Link.Rest.Spent.unread g.P.Link.Rest.Spent.sent)
    c.args.self.now.places.items c.from.result c.args.i c.index_mut.result.now c.replace-old.new.dest (g.P.Porter.tells.back c.args.self.now.porter) (c.from.ensures ∙ c.i.view_is) c.requires
    c.index_mut.ensures.value (sym c.replace-old.ensures.value ∙ c.in-Away.is) c.replace-old.ensures.after

pub returns-in-Here-clause-ended : goal.returns-in-Here-clause-ended
returns-in-Here-clause-ended g c =
    ends_here (links_of g.P.Link.Source.gives g.P.Link.Sink.takes g.P.Link.Rest.Spent.unread g.P.Link.Rest.Spent.sent)
    c.args.self.now.places.items c.from.result c.args.i c.index_mut.result.now c.replace-old.new.dest c.in-Here.seat c.finish.result (g.P.Porter.tells.back c.args.self.now.porter)
    (g.P.Porter.tells.back c.take_back.new.self) (c.from.ensures ∙ c.i.view_is) c.requires c.index_mut.ensures.value (sym c.replace-old.ensures.value ∙ c.in-Here.is) c.replace-old.ensures.after
    c.finish.ensures.unread c.finish.ensures.sent c.take_back.ensures.back
