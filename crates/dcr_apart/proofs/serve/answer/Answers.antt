use Rattle.std.proofs.Common.{sym, subst}
use Rattle.dcr_base.specs.Link.{links_of}
use Rattle.dcr_node.specs.SiteState.{SiteState}
use Rattle.dcr_site.specs.Seen.{StandsAt}
use Rattle.dcr_answer.specs.Greeted.{AnswersBy}
use Rattle.dcr_apart.proofs.ServedLemmas.{served_link}
use Rattle.dcr_apart.proofs.serve.answer.Goals as goal

pub returns : goal.returns
returns g c = λ W it.
    let part = c.args.part in let node = c.new-node.result in let last = c.answer_link-end.new.link.link in let key = c.args.key.now in let gives = g.L.Source.gives in let takes = g.L.Sink.takes in
    let ended = g.L.Source.has_ended last in
    let stands = subst (λ (n : SiteState). StandsAt W.rules W.own W.opening n.site) (sym c.new-node.ensures) it.site in
    served_link (links_of gives takes g.L.Rest.Spent.unread g.L.Rest.Spent.sent) W part key node ended c.args.link (gives last) (takes last) c.finish.result c.answer_link-end.result it c.new-node.ensures
    (g.met.L.Source.ended_has_none last) c.finish.ensures.unread c.finish.ensures.sent
    (subst (λ l. AnswersBy W.rules W.own node part.head.site part.head.digest key ended (gives l) (gives last) (takes l) (takes last) c.answer_link-end.result) c.new-link.ensures
    (c.answer_link-end.ensures W.rules W.own W.opening stands))
