use Rattle.std.proofs.Common.{refl, sym, ◌∙◌, arith}
use Rattle.dcr_base.specs.Link.{links_of}
use Rattle.dcr_order.specs.Tending.{next, fails}
use Rattle.dcr_order.proofs.TendLemmas.{away_not_late, tells_fails, tells_next}
use Rattle.dcr_order.proofs.ordering.Ordering.send.Goals.{in-Away, in-Here}
use Rattle.dcr_order.proofs.ordering.Ordering.send.Goals as goal

pub returns-then-not-sent-clause-tells : goal.returns-then-not-sent-clause-tells
returns-then-not-sent-clause-tells g c = elim c.match-index_mut.branch [
  | in-Away w ↦
      let within = c.requires.site in
      let many = c.requires.places.many in
      absurd (away_not_late c.args.self.now.node c.args.self.now.places.items c.from.result c.args.i c.index_mut.result.now (c.from.ensures ∙ c.i.view_is) (omega arith) c.index_mut.ensures.value w.in-Away.is c.requires.late)
  | in-Here w ↦
      let within = c.requires.site in
      let many = c.requires.places.many in
      fails c.requires.late
      (tells_fails (links_of g.P.Link.Source.gives g.P.Link.Sink.takes g.P.Link.Rest.Spent.unread g.P.Link.Rest.Spent.sent) c.args.self.now.node c.args.self.now.places.items _ c.end.new.self.places.items c.from.result c.args.i c.index_mut.result.now w.in-Here.seat w.send_some-sent.new.self w.send_some-sent.result
      (g.P.Porter.tells.back c.args.self.now.porter) (g.P.Porter.tells.back c.end.new.self.porter) (c.from.ensures ∙ c.i.view_is) (omega arith) c.index_mut.ensures.value w.in-Here.is w.send_some-sent.ensures.number w.send_some-sent.ensures.tells w.send_some-sent.ensures.apart (sym w.sent-is ∙ c.if-not-sent.true) refl
      (rw w.self-is at c.end.ensures.ended))
]

pub returns-else-not-sent-clause-tells : goal.returns-else-not-sent-clause-tells
returns-else-not-sent-clause-tells g c = elim c.match-index_mut.branch [
  | in-Away w ↦
      let within = c.requires.site in
      let many = c.requires.places.many in
      absurd (away_not_late c.args.self.now.node c.args.self.now.places.items c.from.result c.args.i c.index_mut.result.now (c.from.ensures ∙ c.i.view_is) (omega arith) c.index_mut.ensures.value w.in-Away.is c.requires.late)
  | in-Here w ↦
      let within = c.requires.site in
      let many = c.requires.places.many in
      rw w.self-is (next
      (tells_next (links_of g.P.Link.Source.gives g.P.Link.Sink.takes g.P.Link.Rest.Spent.unread g.P.Link.Rest.Spent.sent) c.args.self.now.node c.args.self.now.places.items c.from.result c.args.i c.index_mut.result.now w.in-Here.seat w.send_some-sent.new.self w.send_some-sent.result (c.from.ensures ∙ c.i.view_is) (omega arith)
      c.index_mut.ensures.value w.in-Here.is w.send_some-sent.ensures.number w.send_some-sent.ensures.told w.send_some-sent.ensures.tells w.send_some-sent.ensures.apart (sym w.sent-is ∙ c.if-not-sent.false)) refl)
]
