use Rattle.std.proofs.Common.{◌≡◌, false, subst}
use Rattle.dcr_wire.specs.Laws.{sent_message}
use Rattle.dcr_seat.specs.Asking.{Asks, IsVoteReading}
use Rattle.dcr_seat.proofs.AskingLemmas.{broken_by, unheard_then}
use Rattle.dcr_seat.proofs.seat.Seat.voted.Goals as goal

pub returns-else-ask-clause-broken : goal.returns-else-ask-clause-broken
returns-else-ask-clause-broken g c =
    let failed : c.ask.result ≡ false = cc in
    broken_by g.L.Source.gives g.L.Sink.takes c.args.self.now c.ask.new.self c.ask.ensures.number c.ask.ensures.apart
    (subst (Asks c.args.node.now c.args.site c.args.self.now.told c.ask.new.self.told (sent_message c.args.message.now) (g.L.Sink.takes c.args.self.now.link) (g.L.Sink.takes c.ask.new.self.link)) failed
    c.ask.ensures.asked)

pub returns-then-ask-clause-unheard : goal.returns-then-ask-clause-unheard
returns-then-ask-clause-unheard g c =
    unheard_then c.args.node.now c.args.site c.args.self.now.told c.ask.new.self.told (sent_message c.args.message.now) c.ask.result (g.L.Sink.takes c.args.self.now.link) (g.L.Sink.takes c.ask.new.self.link)
    (g.L.Sink.takes c.vote.new.self.link) (g.L.Source.gives c.args.self.now.link) (g.L.Source.gives c.ask.new.self.link) (g.L.Source.gives c.vote.new.self.link) 14
    (g.L.Source.has_ended c.vote.new.self.link) (IsVoteReading c.args.node.now c.args.site) c.vote.result c.if-ask.true c.ask.ensures.asked c.vote.ensures.apart c.ask.ensures.apart c.vote.ensures.heard
