use Rattle.std.proofs.Common.{◌≡◌, ◌+◌, ◌-◌, ◌^◌, refl, arith}
use Rattle.dcr_answer.proofs.TalkedLemmas.{talked_none, talked_more, talks_end, talks_full}
use Rattle.dcr_answer.proofs.asks.answer_asks.Goals as goal

pub loop-count-init : goal.loop-count-init
loop-count-init g c = λ G S M at. talked_none G S M c.args.node (g.L.Source.gives c.args.link.now) (g.L.Sink.takes c.args.link.now) at

pub loop-count-preserved : goal.loop-count-preserved
loop-count-preserved g c = λ G S M at.
    let talked = c.loop-count.invariant G S M at in
    talked_more G S c.args.node c.loop-count.node (g.L.Source.gives c.args.link.now) (g.L.Source.gives c.loop-count.link)
    (g.L.Sink.takes c.args.link.now) (g.L.Sink.takes c.loop-count.link) c.loop-count._count talked
    c.answer_next.new.node (g.L.Source.gives c.answer_next.new.link) (g.L.Sink.takes c.answer_next.new.link) (c.loop-count._count + 1) refl
    c.in-None.ensures.id c.in-None.ensures.projection (c.in-None.ensures.answered G S talked.at talked.stands)

pub returns-in-Some : goal.returns-in-Some
returns-in-Some g c = λ G S M at.
    let talked = c.loop-count.invariant G S M at in
    talks_end G S c.args.node c.loop-count.node (g.L.Source.gives c.args.link.now) (g.L.Source.gives c.loop-count.link)
    (g.L.Sink.takes c.args.link.now) (g.L.Sink.takes c.loop-count.link) c.loop-count._count talked
    (g.L.Source.has_ended c.answer_next.new.link) (g.L.Source.gives c.answer_next.new.link) (g.L.Sink.takes c.answer_next.new.link)
    c.in-Some.end c.answer_next.new.node (c.in-Some.ensures.answered G S talked.at talked.stands)

pub returns : goal.returns
returns g c = λ G S M at.
    let talked = c.loop-count.invariant G S M at in
    let all : c.loop-count._count ≡ 2 ^ 64 - 1 = omega arith in
    talks_full G S c.args.node c.loop-count.node (g.L.Source.gives c.args.link.now) (g.L.Source.gives c.loop-count.link)
    (g.L.Sink.takes c.args.link.now) (g.L.Sink.takes c.loop-count.link) c.loop-count._count talked (g.L.Source.has_ended c.loop-count.link) all
