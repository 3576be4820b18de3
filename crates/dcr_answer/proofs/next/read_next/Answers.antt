use Rattle.std.proofs.Common.{arith}
use Rattle.dcr_answer.proofs.NextLemmas.{next_in, next_of}
use Rattle.dcr_answer.proofs.next.read_next.Goals as goal

pub returns-in-1-clause-read : goal.returns-in-1-clause-read
returns-in-1-clause-read g c =
    next_of c.fill.new.buf (g.S.Source.has_ended c.read_more.new.source) (g.S.Source.gives c.args.source.now) (g.S.Source.gives c.fill.new.source)
    (g.S.Source.gives c.read_more.new.source) (record { read = c.in-Ok.ensures.all; no_fault = c.in-Ok.ensures.counts })
    c.read_more.result c.read_more.ensures.read

pub returns-in-3-clause-read : goal.returns-in-3-clause-read
returns-in-3-clause-read g c =
    next_of c.fill.new.buf (g.S.Source.has_ended c.read_more-in-3.new.source) (g.S.Source.gives c.args.source.now) (g.S.Source.gives c.fill.new.source)
    (g.S.Source.gives c.read_more-in-3.new.source) (record { read = c.in-Ok.ensures.all; no_fault = c.in-Ok.ensures.counts })
    c.read_more-in-3.result c.read_more-in-3.ensures.read

pub returns-in-4-clause-read : goal.returns-in-4-clause-read
returns-in-4-clause-read g c =
    next_in c.fill.new.buf (g.S.Source.has_ended c.fill.new.source) (g.S.Source.gives c.args.source.now) (g.S.Source.gives c.fill.new.source)
    (omega (arith, c.fill.ensures.len)) (record { read = c.in-Ok.ensures.all; no_fault = c.in-Ok.ensures.counts }) c.question_in.result c.question_in.ensures
