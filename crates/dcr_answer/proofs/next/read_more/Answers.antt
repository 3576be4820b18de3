use Rattle.std.proofs.Common.{arith}
use Rattle.std.proofs.lemmas.List.{length-append}
use Rattle.dcr_answer.proofs.NextLemmas.{more_of}
use Rattle.dcr_answer.proofs.next.read_more.Goals as goal

pub returns-in-Ok-clause-read : goal.returns-in-Ok-clause-read
returns-in-Ok-clause-read g c =
    more_of c.args.first.now c.fill.new.buf (g.S.Source.has_ended c.fill.new.source) (g.S.Source.gives c.args.source.now) (g.S.Source.gives c.fill.new.source)
    (omega (arith, length-append c.args.first.now c.fill.new.buf, c.fill.ensures.len))
    (record { read = c.in-Ok.ensures.all; no_fault = c.in-Ok.ensures.counts }) c.message_in.result c.message_in.ensures
