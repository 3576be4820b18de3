use Rattle.std.proofs.Common.{rules, ◌+◌, arith, sym, subst, ◌∙◌}
use Rattle.std.proofs.lemmas.Bool.{false≢true}
use Rattle.dcr_serve.proofs.ListeningLemmas.{SoFar, after_interruption, after_loss, at_first, gave_up, grew_tired}
use Rattle.dcr_serve.proofs.tcp_door.accept_next.Goals.{else-is_lost, in-Err-2, then-eq, then-is_lost+else-lost-lt-MOST_LOST}
use Rattle.dcr_serve.proofs.tcp_door.accept_next.Goals as goal

pub loop-times-init : goal.loop-times-init
loop-times-init g c = at_first g.L.Accept.answered c.args.listener.now

pub returns-in-Err-3 : goal.returns-in-Err-3
returns-in-Err-3 g c =
    gave_up g.L.Accept.answered c.args.listener.now c.loop-times.listener c.accept_once.new.self c.loop-times.times c.loop-times.lost c.in-Err.e c.loop-times.invariant c.in-Err.ensures (search rules) (λ is.
    elim c.if-is_lost.branch [
      | then-is_lost+else-lost-lt-MOST_LOST w ↦ (let few = c.loop-times.invariant.few in let not_less = w.if-lost-lt-MOST_LOST.false in omega arith)
      | else-is_lost w ↦ absurd (false≢true (sym w.if-is_lost.false ∙ c.is_lost.ensures ∙ is))
    ])

pub loop-times-preserved : goal.loop-times-preserved
loop-times-preserved g c = elim c.if-eq.branch [
  | then-eq w ↦ subst (λ n. SoFar g.L.Accept.answered c.args.listener.now c.accept_once.new.self (c.loop-times.times + 1) n) (sym w.lost-is)
      (after_interruption g.L.Accept.answered c.args.listener.now c.loop-times.listener c.accept_once.new.self c.loop-times.times c.loop-times.lost c.in-Err.e c.loop-times.invariant c.in-Err.ensures (search rules))
  | in-Err-2 w ↦ subst (λ n. SoFar g.L.Accept.answered c.args.listener.now c.accept_once.new.self (c.loop-times.times + 1) n) (sym w.lost-is)
      (after_loss g.L.Accept.answered c.args.listener.now c.loop-times.listener c.accept_once.new.self c.loop-times.times c.loop-times.lost c.in-Err.e c.loop-times.invariant c.in-Err.ensures
      (sym w.is_lost.ensures ∙ w.if-is_lost.true) (omega (arith, w.if-lost-lt-MOST_LOST.true)))
]

pub returns : goal.returns
returns g c =
    grew_tired g.L.Accept.answered c.args.listener.now c.loop-times.listener c.loop-times.times c.loop-times.lost c.loop-times.invariant (omega (arith, c.loop-times-test.false, c.loop-times.auto.times-fits))
