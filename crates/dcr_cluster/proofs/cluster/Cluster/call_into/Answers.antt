use Rattle.dcr_cluster.proofs.GatherLemmas.{answered_by, halted_by}
use Rattle.dcr_cluster.proofs.cluster.Cluster.call_into.Goals as goal

pub returns-clause-answered : goal.returns-clause-answered
returns-clause-answered g c =
    answered_by g.N.ClusterName.cluster g.N.StoreName.first g.N.TurnName.capacity g.N.TurnName.turn c.args.pass.now c.make.new.pass c.row-fronts.result c.make.new.fronts c.args.call.now
    c.make.new.found c.make.result c.make.ensures

pub returns-clause-halted : goal.returns-clause-halted
returns-clause-halted g c =
    halted_by g.N.ClusterName.cluster g.N.StoreName.first g.N.TurnName.capacity g.N.TurnName.turn c.args.pass.now c.make.new.pass c.row-fronts.result c.make.new.fronts c.args.call.now
    c.make.new.found c.make.result c.make.ensures
