use Rattle.std.proofs.Common.{◌<◌, List, ℕ, length, take, refl, subst}
use Rattle.std.specs.Io.KnownBytes.{Appends}
use Rattle.dcr_greet.specs.Greeting.{unasked}
use Rattle.dcr_greet.proofs.HelloLemmas.{asked_of, side_stays}
use Rattle.dcr_greet.proofs.greeter.Greeter.greet.Goals as goal

pub returns-in-Ok : goal.returns-in-Ok
returns-in-Ok g c =
    let had = g.L.Sink.takes c.args.link.now in
    let sent = g.L.Sink.takes c.write_all.new.sink in
    asked_of c.args.self.now c.args.nonce.now _ (g.L.Source.gives c.args.link.now) (g.L.Source.gives c.write_all.new.sink) (g.L.Source.gives c.hear.new.link) had sent (g.L.Sink.takes c.hear.new.link) c.hear.result
    (subst (λ t. Appends had.bytes sent.bytes t) c.text.ensures c.in-Ok.ensures.all, c.in-Ok.ensures.counts)
    (side_stays g.L.Sink.source_side g.L.Source.gives g.met.L.Link.source_is c.args.link.now c.write_all.new.sink c.write_all.ensures.apart)
    (side_stays g.L.Source.sink_side g.L.Sink.takes g.met.L.Link.sink_is c.write_all.new.sink c.hear.new.link c.hear.ensures.apart)
    c.hear.ensures.heard

pub returns-in-Err : goal.returns-in-Err
returns-in-Err g c =
    let had = g.L.Sink.takes c.args.link.now in
    let sent = g.L.Sink.takes c.write_all.new.sink in
    let fault = c.in-Err.field-0 in
    unasked refl (record {
      count = fault.written;
      fewer = subst (λ (t : List ℕ). fault.written < length t) c.text.ensures c.in-Err.ensures.not_all;
      wrote = subst (λ t. Appends had.bytes sent.bytes (take fault.written t)) c.text.ensures c.in-Err.ensures.front;
    }) c.in-Err.ensures.counts (side_stays g.L.Sink.source_side g.L.Source.gives g.met.L.Link.source_is c.args.link.now c.write_all.new.sink c.write_all.ensures.apart)
