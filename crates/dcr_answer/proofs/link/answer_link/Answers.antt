use Rattle.std.proofs.Common.{ap, ◌∙◌}
use Rattle.dcr_greet.specs.Greeting.{hello_text}
use Rattle.dcr_greet.proofs.HelloLemmas.{side_stays}
use Rattle.dcr_answer.proofs.GreetedLemmas.{greeted_link, unsent_link}
use Rattle.dcr_answer.proofs.link.answer_link.Goals as goal

pub returns-in-Some : goal.returns-in-Some
returns-in-Some g c = λ G S M at.
    let link = c.args.link.now in let read = c.read_challenge.new.source in let sent = c.send.new.sink in
    unsent_link G S c.args.node c.args.site c.args.digest.now c.args.key.now c.in-Ok.challenge (g.L.Source.has_ended sent) (g.L.Source.gives link) (g.L.Source.gives read) (g.L.Source.gives sent)
    (g.L.Sink.takes link) (g.L.Sink.takes read) (g.L.Sink.takes sent) c.text.result c.in-Some.end c.in-Ok.ensures.read
    (side_stays g.L.Sink.source_side g.L.Source.gives g.met.L.Link.source_is read sent c.send.ensures.apart)
    (side_stays g.L.Source.sink_side g.L.Sink.takes g.met.L.Link.sink_is link read c.read_challenge.ensures.apart)
    (c.text.ensures ∙ ap hello_text c.new.ensures) c.in-Some.ensures.sent

pub returns-in-None : goal.returns-in-None
returns-in-None g c = λ G S M at.
    let link = c.args.link.now in let read = c.read_challenge.new.source in let sent = c.send.new.sink in let last = c.answer_asks.new.link in
    greeted_link G S c.args.node c.args.site c.args.digest.now c.args.key.now c.in-Ok.challenge (g.L.Source.has_ended last) (g.L.Source.gives link) (g.L.Source.gives read) (g.L.Source.gives sent)
    (g.L.Source.gives last) (g.L.Sink.takes link) (g.L.Sink.takes read) (g.L.Sink.takes sent) (g.L.Sink.takes last) c.text.result c.answer_asks.result c.in-Ok.ensures.read
    (side_stays g.L.Sink.source_side g.L.Source.gives g.met.L.Link.source_is read sent c.send.ensures.apart)
    (side_stays g.L.Source.sink_side g.L.Sink.takes g.met.L.Link.sink_is link read c.read_challenge.ensures.apart)
    (c.text.ensures ∙ ap hello_text c.new.ensures) c.in-None.ensures.sent (c.answer_asks.ensures G S M at)
