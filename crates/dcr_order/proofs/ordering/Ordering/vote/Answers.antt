use Rattle.std.proofs.Common.{◌≡◌, ◌∙◌, None, refl, sym, arith}
use Rattle.std.proofs.lemmas.Option.{IfSome_then}
use Rattle.dcr_base.specs.Link.{links_of}
use Rattle.dcr_wire.specs.Laws.{sent_message}
use Rattle.dcr_order.proofs.LinkLemmas.{ends_unasked, ends_asked, answers_there, none_is, if_none, at_none, if_some_none}
use Rattle.dcr_order.proofs.ordering.Ordering.vote.Goals.{in-Away, in-Here}
use Rattle.dcr_order.proofs.ordering.Ordering.vote.Goals as goal

pub returns-then-is_none-clause-ended : goal.returns-then-is_none-clause-ended
returns-then-is_none-clause-ended g c =
    let none : c.match-index_mut.vote ≡ None = none_is c.match-index_mut.vote c.is_none.result c.is_none.ensures c.if-is_none.true in
    if_none c.match-index_mut.vote _ (elim c.match-index_mut.branch [
      | in-Away w ↦
          ends_unasked (links_of g.P.Link.Source.gives g.P.Link.Sink.takes g.P.Link.Rest.Spent.unread g.P.Link.Rest.Spent.sent)
          c.args.self.now.places.items _ c.end.new.self.places.items c.from.result c.args.i c.index_mut.result.now (g.P.Porter.tells.back c.args.self.now.porter) (g.P.Porter.tells.back c.end.new.self.porter)
          c.index_mut.ensures.value refl (rw w.self-is at c.end.ensures.ended)
      | in-Here w ↦
          let within = c.requires.site in
          let many = c.requires.places.many in
          ends_asked (links_of g.P.Link.Source.gives g.P.Link.Sink.takes g.P.Link.Rest.Spent.unread g.P.Link.Rest.Spent.sent)
          c.args.self.now.places.items _ c.end.new.self.places.items c.from.result c.args.i c.index_mut.result.now w.in-Here.seat w.voted-vote.new.self (g.P.Porter.tells.back c.args.self.now.porter)
          (g.P.Porter.tells.back c.end.new.self.porter) (c.from.ensures ∙ c.i.view_is) (omega arith) c.index_mut.ensures.value w.in-Here.is refl
          (at_none w.voted-vote.result _ (sym w.vote-is ∙ none) w.voted-vote.ensures.broken) (rw w.self-is at c.end.ensures.ended)
    ])

pub returns-else-is_none-clause-answers : goal.returns-else-is_none-clause-answers
returns-else-is_none-clause-answers g c = elim c.match-index_mut.branch [
  | in-Away w ↦ if_some_none c.match-index_mut.vote _ w.vote-is
  | in-Here w ↦
      let within = c.requires.site in
      let many = c.requires.places.many in
      rw w.self-is (rw w.vote-is (IfSome_then w.voted-vote.result w.voted-vote.ensures.answered (λ one answered. (
        answers_there (links_of g.P.Link.Source.gives g.P.Link.Sink.takes g.P.Link.Rest.Spent.unread g.P.Link.Rest.Spent.sent)
            c.args.self.now.node c.args.self.now.places.items c.from.result c.args.i c.index_mut.result.now w.in-Here.seat w.voted-vote.new.self (sent_message c.args.ask.now) (sent_message one)
            (c.from.ensures ∙ c.i.view_is) (omega arith) c.index_mut.ensures.value w.in-Here.is answered,
        refl,
      ))))
]
