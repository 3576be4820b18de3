use Rattle.std.proofs.Common.{◌≡◌, ◌∙◌, true, false, subst, arith}
use Rattle.dcr_seat.specs.Asking.{Tells}
use Rattle.dcr_seat.proofs.AskingLemmas.{breaks_since, fails_since, tells_since, asks_all}
use Rattle.dcr_seat.specs.InStep.{told_of}
use Rattle.dcr_seat.proofs.seat.Seat.bring.Goals as goal

pub returns-then-not-send_some-clause-asked : goal.returns-then-not-send_some-clause-asked
returns-then-not-send_some-clause-asked g c = λ one spelled.
    let was = c.loop-self.invariant.3 in
    let failed : c.send_some.result ≡ false = cc in
    breaks_since (told_of c.args.node.now c.args.site c.args.self.now.told was.0) (g.L.Sink.takes c.args.self.now.link) (g.L.Sink.takes c.loop-self.self.link) (g.L.Sink.takes c.send_some.new.self.link) was.1
    (subst (Tells c.args.node.now c.args.site c.loop-self.self.told c.send_some.new.self.told (g.L.Sink.takes c.loop-self.self.link) (g.L.Sink.takes c.send_some.new.self.link)) failed c.send_some.ensures.tells)

pub loop-self-preserved : goal.loop-self-preserved
loop-self-preserved g c =
    let sent : c.send_some.result ≡ true = cc in
    let more = c.send_some.ensures.told in
    let within = c.loop-self.invariant.2 in (
      c.send_some.ensures.number ∙ c.loop-self.invariant.0,
      c.send_some.ensures.apart ∙ c.loop-self.invariant.1,
      omega arith,
      tells_since c.args.node.now c.args.site c.args.self.now.told c.loop-self.self.told c.send_some.new.self.told (g.L.Sink.takes c.args.self.now.link) (g.L.Sink.takes c.loop-self.self.link)
          (g.L.Sink.takes c.send_some.new.self.link) c.loop-self.invariant.3
          (subst (Tells c.args.node.now c.args.site c.loop-self.self.told c.send_some.new.self.told (g.L.Sink.takes c.loop-self.self.link) (g.L.Sink.takes c.send_some.new.self.link)) sent c.send_some.ensures.tells),
    )

pub returns-clause-asked : goal.returns-clause-asked
returns-clause-asked g c = λ one spelled.
    let within = c.loop-self.invariant.2 in
    let all = c.stream_len-to.ensures in
    asks_all c.args.node.now c.args.site c.args.self.now.told c.loop-self.self.told c.stream_len-to.result (g.L.Sink.takes c.args.self.now.link) (g.L.Sink.takes c.loop-self.self.link)
    (g.L.Sink.takes c.send.new.sink) c.lay.new.parcel c.args.last.now c.put.new.self one c.send.result c.loop-self.invariant.3 all (omega arith) c.lay.ensures.laid spelled c.put.ensures c.send.ensures.sent
    c.send.ensures.front

pub returns-then-not-send_some-clause-failed : goal.returns-then-not-send_some-clause-failed
returns-then-not-send_some-clause-failed g c = λ failed.
    let was = c.loop-self.invariant.3 in
    fails_since (told_of c.args.node.now c.args.site c.args.self.now.told was.0) (g.L.Sink.takes c.args.self.now.link) (g.L.Sink.takes c.loop-self.self.link) (g.L.Sink.takes c.send_some.new.self.link) was.1
    (c.send_some.ensures.failed cc)

pub returns-clause-failed : goal.returns-clause-failed
returns-clause-failed g c = λ failed.
    let was = c.loop-self.invariant.3 in
    fails_since (told_of c.args.node.now c.args.site c.args.self.now.told was.0) (g.L.Sink.takes c.args.self.now.link) (g.L.Sink.takes c.loop-self.self.link) (g.L.Sink.takes c.send.new.sink) was.1 (c.send.ensures.failed failed)
