use Rattle.std.proofs.Common.{refl}
use Rattle.dcr_base.specs.Link.{links_of}
use Rattle.dcr_order.specs.Calling.{told_by}
use Rattle.dcr_order.specs.Linked.{HasVoted}
use Rattle.dcr_order.proofs.OrderLemmas.{stored_quiet, ok_as_some, look_is_quiet, enabled_is_quiet, accepting_is_quiet}
use Rattle.dcr_order.proofs.VotedLemmas.{exec_voted}
use Rattle.dcr_order.proofs.ordering.Ordering.ask.Goals as goal

pub returns-in-Look-clause-stored : goal.returns-in-Look-clause-stored
returns-in-Look-clause-stored g c =
    stored_quiet g.D.Disk.view g.D.Disk.faults g.N.StoreName.first g.N.ClusterName.cluster.old c.args.self.now.store c.ask_one.new.self.store c.args.call.now c.ask_one.result (told_by c.told_or-in-Look.result) c.told_or-in-Look.ensures.told
    (look_is_quiet c.args.call.now c.in-Look.i c.in-Look.is) c.ask_one.ensures.no_fault c.ask_one.ensures.store

pub returns-in-Enabled-clause-stored : goal.returns-in-Enabled-clause-stored
returns-in-Enabled-clause-stored g c =
    stored_quiet g.D.Disk.view g.D.Disk.faults g.N.StoreName.first g.N.ClusterName.cluster.old c.args.self.now.store c.ask_one-in-Enabled.new.self.store c.args.call.now c.ask_one-in-Enabled.result (told_by c.told_or-in-Enabled.result) c.told_or-in-Enabled.ensures.told
    (enabled_is_quiet c.args.call.now c.in-Enabled.i c.in-Enabled.is) c.ask_one-in-Enabled.ensures.no_fault c.ask_one-in-Enabled.ensures.store

pub returns-in-Accepting-clause-stored : goal.returns-in-Accepting-clause-stored
returns-in-Accepting-clause-stored g c =
    stored_quiet g.D.Disk.view g.D.Disk.faults g.N.StoreName.first g.N.ClusterName.cluster.old c.args.self.now.store c.ask_all.new.self.store c.args.call.now (told_by c.ask_all.result) (told_by c.ask_all.result) refl
    (accepting_is_quiet c.args.call.now c.in-Accepting.is) (ok_as_some c.ask_all.result c.ask_all.ensures.no_fault) c.ask_all.ensures.store

pub returns-in-Exec-clause-voted : goal.returns-in-Exec-clause-voted
returns-in-Exec-clause-voted g c =
    exec_voted c.told_or.result c.execute.result c.args.call.now c.in-Exec.i c.in-Exec.e c.args.self.now.node.out
    (λ session i e. HasVoted (links_of g.P.Link.Source.gives g.P.Link.Sink.takes g.P.Link.Rest.Spent.unread g.P.Link.Rest.Spent.sent) g.N.PorterName.links g.N.PorterName.back g.N.PorterName.greets g.N.ClusterName.cluster
    c.args.self.now.node c.execute.new.self.places.items (g.P.Porter.tells.back c.execute.new.self.porter) session i e)
    c.told_or.ensures.told c.in-Exec.is c.execute.ensures.voted
