use Rattle.dcr_order.proofs.CallLemmas.{stored_undone, not_here_undone, blocked_undone}
use Rattle.dcr_order.proofs.ordering.Ordering.may_enter.Goals as goal

pub returns-in-NotHere-clause-stored : goal.returns-in-NotHere-clause-stored
returns-in-NotHere-clause-stored g c =
    stored_undone g.D.Disk.view g.D.Disk.faults g.N.StoreName.first g.N.ClusterName.cluster.old c.args.self.now.store c.args.i c.args.e c.args.decision.now
    (not_here_undone c.args.decision.now c.in-NotHere.is)

pub returns-in-Blocked-clause-stored : goal.returns-in-Blocked-clause-stored
returns-in-Blocked-clause-stored g c =
    stored_undone g.D.Disk.view g.D.Disk.faults g.N.StoreName.first g.N.ClusterName.cluster.old c.args.self.now.store c.args.i c.args.e c.args.decision.now
    (blocked_undone c.args.decision.now c.in-Blocked.field-0 c.in-Blocked.is)
