use Rattle.std.proofs.Common.{◌≡◌, false, subst}
use Rattle.dcr_wire.specs.Laws.{sent_question}
use Rattle.dcr_seat.specs.Asking.{Asks, IsReadingTo}
use Rattle.dcr_seat.proofs.AskingLemmas.{broken_by, unheard_then}
use Rattle.dcr_seat.proofs.seat.Seat.answered.Goals as goal

pub returns-else-question-clause-broken : goal.returns-else-question-clause-broken
returns-else-question-clause-broken g c =
    let failed : c.question.result ≡ false = cc in
    broken_by g.L.Source.gives g.L.Sink.takes c.args.self.now c.question.new.self c.question.ensures.number c.question.ensures.apart
    (subst (Asks c.args.node.now c.args.site c.args.self.now.told c.question.new.self.told (sent_question c.args.question.now) (g.L.Sink.takes c.args.self.now.link) (g.L.Sink.takes c.question.new.self.link)) failed
    c.question.ensures.asked)

pub returns-then-question-clause-unheard : goal.returns-then-question-clause-unheard
returns-then-question-clause-unheard g c =
    unheard_then c.args.node.now c.args.site c.args.self.now.told c.question.new.self.told (sent_question c.args.question.now) c.question.result (g.L.Sink.takes c.args.self.now.link) (g.L.Sink.takes c.question.new.self.link)
    (g.L.Sink.takes c.answer.new.self.link) (g.L.Source.gives c.args.self.now.link) (g.L.Source.gives c.question.new.self.link) (g.L.Source.gives c.answer.new.self.link) 400
    (g.L.Source.has_ended c.answer.new.self.link) (IsReadingTo c.args.node.now c.args.question.now) c.answer.result c.if-question.true c.question.ensures.asked c.answer.ensures.apart c.question.ensures.apart c.answer.ensures.heard
