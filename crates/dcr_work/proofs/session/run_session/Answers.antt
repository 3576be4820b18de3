use Rattle.std.proofs.Common.{sym, ap, ◌∙◌, arith}
use Rattle.std.specs.Option.{option_copied}
use Rattle.dcr_work.proofs.SessionLemmas.{call_at, get_there, so_far_first, so_far_next, so_far_halted}
use Rattle.dcr_work.proofs.session.run_session.Goals as goal

pub loop-i-init : goal.loop-i-init
loop-i-init g c = so_far_first g.N.ClusterName.cluster c.args.calls.now c.args.pass.now c.requires.made_none c.requires.legal c.requires.none

pub unwrap-requires : goal.unwrap-requires
unwrap-requires g c = get_there c.args.calls.now c.loop-i.i c.get.result (let t = c.loop-i-test.true in let e = c.len-i-end.ensures in omega arith) c.get.ensures

pub call_into-requires : goal.call_into-requires
call_into-requires g c = call_at g.N.ClusterName.cluster c.args.calls.now c.loop-i.i c.unwrap.result.now c.requires.in_range (sym c.get.ensures ∙ ap option_copied c.unwrap.ensures)

pub returns-in_default-clause-worked : goal.returns-in_default-clause-worked
returns-in_default-clause-worked g c =
    let halted = c.in_default.ensures.halted in
    (so_far_halted g.N.ClusterName.cluster g.N.StoreName.first g.N.TurnName.capacity c.args.calls.now c.args.pass.now c.loop-i.i c.loop-i.pass c.call_into.new.pass halted.0 c.in_default.field-0
    c.loop-i.invariant (let t = c.loop-i-test.true in let e = c.len-i-end.ensures in omega arith) (sym halted.1.front) halted.1).worked

pub loop-i-preserved : goal.loop-i-preserved
loop-i-preserved g c =
    so_far_next g.N.ClusterName.cluster g.N.StoreName.first g.N.TurnName.capacity c.args.calls.now c.args.pass.now c.loop-i.i c.loop-i.pass c.call_into.new.pass c.unwrap.result.now c.call_into.new.told c.in-Ok.ensures.answered.0
    c.loop-i.invariant (sym c.get.ensures ∙ ap option_copied c.unwrap.ensures) c.in-Ok.ensures.answered.1
