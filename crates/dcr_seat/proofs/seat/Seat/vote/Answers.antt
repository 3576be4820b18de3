use Rattle.std.proofs.lemmas.Bool.{false≢true}
use Rattle.dcr_seat.proofs.HearingLemmas.{hears_no_vote}
use Rattle.dcr_seat.proofs.seat.Seat.vote.Goals as goal

pub returns-else-is_vote-clause-heard : goal.returns-else-is_vote-clause-heard
returns-else-is_vote-clause-heard g c =
    hears_no_vote 14 (g.L.Source.has_ended c.hear_vote.new.source) (g.L.Source.gives c.args.self.now.link) (g.L.Source.gives c.hear_vote.new.source) c.args.node.now c.args.site
    c.in_ok-message.message (λ vote. absurd (false≢true (c.if-is_vote.ensures.1 vote))) c.in_ok-message.ensures.heard
