use Rattle.dcr_orderer.specs.Making.{EnteredAfter, UnmadeAfter}
use Rattle.dcr_orderer.proofs.MakingLemmas.{entered_met, err_more, ok_more, unmade_met}
use Rattle.dcr_orderer.proofs.orderer.Orderer.call.Goals as goal

pub returns-clause-made : goal.returns-clause-made
returns-clause-made g c =
    let J = c.lock-guard.result.entries in
    ok_more c.make-made.result (EnteredAfter g.N.ClusterName.cluster g.N.StoreName.first g.N.TurnName.capacity c.meet.new.self.entries c.meet.new.pass c.make-made.new.pass c.args.call.now) _
    (λ outcome made. (
      J,
      entered_met g.N.ClusterName.cluster g.N.StoreName.first g.N.TurnName.capacity J c.args.pass.now c.meet.new.pass c.make-made.new.pass c.args.call.now c.meet.ensures.session
          c.meet.ensures.made c.meet.ensures.seen outcome (rw c.meet.ensures.same at made),
    )) c.make-made.ensures.made

pub returns-clause-unmade : goal.returns-clause-unmade
returns-clause-unmade g c =
    let J = c.lock-guard.result.entries in
    err_more c.make-made.result (UnmadeAfter g.N.ClusterName.cluster g.N.StoreName.first g.N.TurnName.capacity c.meet.new.self.entries c.meet.new.pass c.make-made.new.pass c.args.call.now) _
    (λ why unmade. (
      J,
      unmade_met g.N.ClusterName.cluster g.N.StoreName.first g.N.TurnName.capacity J c.args.pass.now c.meet.new.pass c.make-made.new.pass c.args.call.now c.meet.ensures.session
          c.meet.ensures.made c.meet.ensures.seen why (rw c.meet.ensures.same at unmade),
    )) c.make-made.ensures.unmade
