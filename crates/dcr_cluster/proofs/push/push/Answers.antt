use Rattle.std.proofs.Common.{sym, ◌∙◌}
use Rattle.dcr_turn.proofs.Faults.{no_fault_at_end}
use Rattle.dcr_turn.specs.Pushing.{EndsWithoutFault}
use Rattle.dcr_cluster.proofs.PushLemmas.{may_keep, pushed_none, pushed_one, pushed_stopped}
use Rattle.dcr_cluster.proofs.push.push.Goals as goal

pub returns-then-is_faulted : goal.returns-then-is_faulted
returns-then-is_faulted g c =
    pushed_stopped g.D.Disk.view g.D.Disk.faults g.N.ClusterName.cluster g.N.StoreName.first g.N.TurnName.capacity c.args.guard.now c.args.pass.now c.args.call.now c.args.found.now
    c.seen.result c.requires.stands (sym c.is_faulted.ensures ∙ c.if-is_faulted.true) c.requires.met c.seen.ensures

pub returns-then-spare-eq0 : goal.returns-then-spare-eq0
returns-then-spare-eq0 g c =
    let ends : EndsWithoutFault c.args.guard.now.entries = no_fault_at_end c.args.guard.now.entries (sym c.is_faulted.ensures ∙ c.if-is_faulted.false) in
    pushed_none g.D.Disk.view g.D.Disk.faults g.N.ClusterName.cluster g.N.StoreName.first g.N.TurnName.capacity c.args.guard.now c.args.pass.now c.args.call.now c.args.found.now
    c.seen-then-spare-eq0.result c.spare.result c.requires.stands ends c.requires.met c.seen-then-spare-eq0.ensures c.spare.ensures c.if-spare-eq0.true

pub tell-requires : goal.tell-requires
tell-requires g c =
    let ends : EndsWithoutFault c.args.guard.now.entries = no_fault_at_end c.args.guard.now.entries (sym c.is_faulted.ensures ∙ c.if-is_faulted.false) in
    may_keep g.D.Disk.view g.D.Disk.faults g.N.ClusterName.cluster g.N.StoreName.first g.N.TurnName.capacity c.args.guard.now c.kept.result.now c.spare.result
    c.requires.stands c.kept.ensures.value ends c.spare.ensures c.if-spare-eq0.false c.requires.most_entries c.requires.named.few_old

pub returns : goal.returns
returns g c =
    let ends : EndsWithoutFault c.args.guard.now.entries = no_fault_at_end c.args.guard.now.entries (sym c.is_faulted.ensures ∙ c.if-is_faulted.false) in
    pushed_one g.D.Disk.view g.D.Disk.faults g.N.ClusterName.cluster g.N.StoreName.first g.N.TurnName.capacity c.args.guard.now c.push.new.self c.kept.result.now c.tell.new.self
    c.args.pass.now c.push.new.pass c.args.call.now c.args.found.now c.tell.new.told c.spare.result c.requires.stands ends c.requires.met c.requires.made c.requires.in_range
    c.spare.ensures c.if-spare-eq0.false c.kept.ensures.value c.tell.ensures.told c.tell.ensures.kept c.push.ensures.entries c.push.ensures.session
    c.push.ensures.front c.push.ensures.made
