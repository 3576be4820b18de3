use Rattle.dcr_base.specs.Link.{links_of}
use Rattle.dcr_order.proofs.BehindLemmas.{behind_further}
use Rattle.dcr_order.proofs.TendLemmas.{tells_further}
use Rattle.dcr_order.proofs.ordering.Ordering.tells.Goals as goal

pub tells_waits-requires-clause-stands : goal.tells_waits-requires-clause-stands
tells_waits-requires-clause-stands g c = (c.requires.stands.0, c.tells_marks.ensures.stands c.requires.stands.0 c.requires.stands.1)

pub returns-then-not-tells_marks-clause-away : goal.returns-then-not-tells_marks-clause-away
returns-then-not-tells_marks-clause-away g c = λ result.
    let away = c.tells_marks.ensures.away c.if-not-tells_marks.true in
    (away.0, λ one there told. away.1 one there told.marks)

pub returns-clause-stands : goal.returns-clause-stands
returns-clause-stands g c = λ J stands. c.tells_waits.ensures.stands J (c.tells_marks.ensures.stands J stands)

pub returns-clause-more : goal.returns-clause-more
returns-clause-more g c = tells_further c.args.self.now.node c.tells_marks.new.self.node c.tells_waits.new.self.node c.args.i c.tells_marks.ensures.more c.tells_waits.ensures.more

pub returns-clause-told : goal.returns-clause-told
returns-clause-told g c = λ result one there.
    let kept = c.tells_waits.ensures.more.kept one there in
    record { marks = kept.2 (c.tells_marks.ensures.told c.if-not-tells_marks.false kept.0 kept.1); waits = c.tells_waits.ensures.told result one there }

pub returns-clause-away : goal.returns-clause-away
returns-clause-away g c = λ result.
    let away = c.tells_waits.ensures.away result in
    (away.0, λ one there told. away.1 one there told.waits)

pub returns-clause-behind : goal.returns-clause-behind
returns-clause-behind g c =
    behind_further (links_of g.P.Link.Source.gives g.P.Link.Sink.takes g.P.Link.Rest.Spent.unread g.P.Link.Rest.Spent.sent) c.args.self.now.places.items c.tells_marks.new.self.places.items c.tells_waits.new.self.places.items (g.P.Porter.tells.back c.args.self.now.porter) (g.P.Porter.tells.back c.tells_marks.new.self.porter) (g.P.Porter.tells.back c.tells_waits.new.self.porter) c.tells_marks.ensures.behind c.tells_waits.ensures.behind
