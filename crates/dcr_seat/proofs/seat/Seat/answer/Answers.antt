use Rattle.std.proofs.lemmas.Bool.{false≢true}
use Rattle.dcr_seat.proofs.HearingLemmas.{hears_no_answer}
use Rattle.dcr_seat.proofs.seat.Seat.answer.Goals as goal

pub returns-else-is_answer-clause-heard : goal.returns-else-is_answer-clause-heard
returns-else-is_answer-clause-heard g c =
    hears_no_answer 400 (g.L.Source.has_ended c.hear_answer.new.source) (g.L.Source.gives c.args.self.now.link) (g.L.Source.gives c.hear_answer.new.source) c.args.node.now c.args.question.now
    c.in_ok-answer.answer (λ is. absurd (false≢true (c.if-is_answer.ensures.1 is))) c.in_ok-answer.ensures.heard
