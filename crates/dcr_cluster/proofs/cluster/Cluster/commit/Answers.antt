use Rattle.std.proofs.Common.{◌++◌, ap, ◌∙◌}
use Rattle.dcr_turn.specs.GuardValue.{GuardValue}
use Rattle.dcr_cell.specs.Asking.{sites_of}
use Rattle.dcr_cell.specs.declared.kept.Kept.{Kept}
use Rattle.dcr_cluster.specs.Calls.{ending}
use Rattle.dcr_cluster.specs.Entering.{MayEnter}
use Rattle.dcr_cluster.proofs.CommitLemmas.{ready_met, still_stands, entered_is_made}
use Rattle.dcr_cluster.proofs.cluster.Cluster.commit.Goals as goal

pub enter-ended-requires-clause-none : goal.enter-ended-requires-clause-none
enter-ended-requires-clause-none g c = ap (λ (guard : GuardValue (Kept g.row.D.Denot g.row.N.Denot)). guard.enlisted) c.meet.ensures.same ∙ c.lock_noting-guard.ensures.enlisted

pub enter-ended-requires-clause-ready : goal.enter-ended-requires-clause-ready
enter-ended-requires-clause-ready g c =
    let ready : MayEnter g.D.Disk.view g.D.Disk.faults g.N.ClusterName.cluster g.N.StoreName.first g.N.TurnName.capacity g.N.TurnName.turn c.meet.new.self c.meet.new.pass c.args.call.now c.args.found.now
    (sites_of c.args.fronts.now ++ c.meet.new.self.enlisted) =
    ready_met g.D.Disk.view g.D.Disk.faults g.N.ClusterName.cluster g.N.StoreName.first g.N.TurnName.capacity g.N.TurnName.turn c.lock_noting-guard.result c.meet.new.self c.args.pass.now
    c.meet.new.pass c.args.fronts.now c.args.call.now c.args.found.now c.self.invariant.0.named c.self.invariant.0.most_entries c.requires.call c.meet.ensures.same c.lock_noting-guard.ensures.enlisted
    c.lock_noting-guard.ensures.kept c.meet.ensures.session c.meet.ensures.front c.meet.ensures.made c.meet.ensures.seen c.requires.enough c.requires.found in
    ready

pub unlock-requires-clause-kept : goal.unlock-requires-clause-kept
unlock-requires-clause-kept g c =
    let ready : MayEnter g.D.Disk.view g.D.Disk.faults g.N.ClusterName.cluster g.N.StoreName.first g.N.TurnName.capacity g.N.TurnName.turn c.meet.new.self c.meet.new.pass c.args.call.now c.args.found.now
    (sites_of c.args.fronts.now ++ c.meet.new.self.enlisted) =
    ready_met g.D.Disk.view g.D.Disk.faults g.N.ClusterName.cluster g.N.StoreName.first g.N.TurnName.capacity g.N.TurnName.turn c.lock_noting-guard.result c.meet.new.self c.args.pass.now
    c.meet.new.pass c.args.fronts.now c.args.call.now c.args.found.now c.self.invariant.0.named c.self.invariant.0.most_entries c.requires.call c.meet.ensures.same c.lock_noting-guard.ensures.enlisted
    c.lock_noting-guard.ensures.kept c.meet.ensures.session c.meet.ensures.front c.meet.ensures.made c.meet.ensures.seen c.requires.enough c.requires.found in
    still_stands g.D.Disk.view g.D.Disk.faults g.N.ClusterName.cluster g.N.StoreName.first g.N.TurnName.capacity g.N.TurnName.turn c.meet.new.self c.enter-ended.new.guard c.meet.new.pass
    c.enter-ended.new.pass c.args.fronts.now c.enter-ended.new.fronts c.args.call.now c.args.found.now (sites_of c.args.fronts.now ++ c.meet.new.self.enlisted) (ending c.enter-ended.new.found c.enter-ended.result)
    c.requires.enough c.requires.found ready c.enter-ended.ensures

pub returns : goal.returns
returns g c =
    let ready : MayEnter g.D.Disk.view g.D.Disk.faults g.N.ClusterName.cluster g.N.StoreName.first g.N.TurnName.capacity g.N.TurnName.turn c.meet.new.self c.meet.new.pass c.args.call.now c.args.found.now
    (sites_of c.args.fronts.now ++ c.meet.new.self.enlisted) =
    ready_met g.D.Disk.view g.D.Disk.faults g.N.ClusterName.cluster g.N.StoreName.first g.N.TurnName.capacity g.N.TurnName.turn c.lock_noting-guard.result c.meet.new.self c.args.pass.now
    c.meet.new.pass c.args.fronts.now c.args.call.now c.args.found.now c.self.invariant.0.named c.self.invariant.0.most_entries c.requires.call c.meet.ensures.same c.lock_noting-guard.ensures.enlisted
    c.lock_noting-guard.ensures.kept c.meet.ensures.session c.meet.ensures.front c.meet.ensures.made c.meet.ensures.seen c.requires.enough c.requires.found in
    entered_is_made g.D.Disk.view g.D.Disk.faults g.N.ClusterName.cluster g.N.StoreName.first g.N.TurnName.capacity g.N.TurnName.turn c.lock_noting-guard.result c.meet.new.self c.enter-ended.new.guard
    c.args.pass.now c.meet.new.pass c.enter-ended.new.pass c.args.fronts.now c.enter-ended.new.fronts c.args.call.now c.args.found.now (sites_of c.args.fronts.now ++ c.meet.new.self.enlisted)
    (ending c.enter-ended.new.found c.enter-ended.result) c.meet.ensures.same c.meet.ensures.seen c.meet.ensures.session c.meet.ensures.made c.requires.enough c.requires.found ready c.enter-ended.ensures
