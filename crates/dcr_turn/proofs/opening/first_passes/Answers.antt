use Rattle.std.proofs.Common.{arith}
use Rattle.dcr_turn.proofs.GivingOut.{session_cut, session_kept, passes_more}
use Rattle.dcr_turn.proofs.opening.first_passes.Goals as goal

pub new-requires-clause-records : goal.new-requires-clause-records
new-requires-clause-records g c = session_cut c.loop-k.k c.args.sessions c.loop-k.records c.cut.result c.loop-k-test.true c.loop-k.invariant.records c.cut.ensures.cut

pub push_reserved-requires : goal.push_reserved-requires
push_reserved-requires g c = omega (arith, c.loop-k.invariant.count, c.loop-k.invariant.room, c.loop-k-test.true)

pub loop-k-preserved : goal.loop-k-preserved
loop-k-preserved g c = record {
  passes = passes_more c.loop-k.k c.loop-k.passes.items c.push_reserved.new.self.items c.new.result c.loop-k.invariant.passes c.push_reserved.ensures.items c.new.ensures.session c.new.ensures.front c.new.ensures.made;
  count = omega (arith, c.loop-k.invariant.count, c.push_reserved.ensures.len);
  room = omega (arith, c.loop-k.invariant.room, c.push_reserved.ensures.capacity);
  records = session_kept c.loop-k.k c.args.sessions c.loop-k.records c.cut.new.self c.loop-k-test.true c.loop-k.invariant.records c.cut.ensures.kept;
}
