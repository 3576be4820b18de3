use Rattle.dcr_cluster.specs.Calls.{ending}
use Rattle.dcr_cluster.proofs.EnterLemmas.{ready_below, entered_row}
use Rattle.dcr_cluster.proofs.push.enter.Goals as goal

pub push-ended-requires : goal.push-ended-requires
push-ended-requires g c =
    ready_below g.D.Disk.view g.D.Disk.faults g.N.ClusterName.cluster g.N.StoreName.first g.N.TurnName.capacity g.N.TurnName.turn c.args.guard.now c.enlist_row.new.self c.args.pass.now c.args.call.now
    c.args.found.now c.args.fronts.now c.enlist_row.ensures.enlisted c.requires.ready

pub returns : goal.returns
returns g c =
    entered_row g.D.Disk.view g.D.Disk.faults g.N.ClusterName.cluster g.N.StoreName.first g.N.TurnName.capacity g.N.TurnName.turn c.args.guard.now c.enlist_row.new.self c.push-ended.new.guard
    c.dismiss_row.new.self c.args.pass.now c.push-ended.new.pass c.args.call.now c.args.found.now (ending c.push-ended.new.found c.push-ended.result) c.args.fronts.now c.dismiss_row.new.row
    c.requires.none c.enlist_row.ensures.enlisted c.enlist_row.ensures.seen c.push-ended.ensures c.dismiss_row.ensures.enlisted c.dismiss_row.ensures.row
