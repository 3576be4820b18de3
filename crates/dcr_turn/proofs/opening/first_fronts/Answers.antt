use Rattle.std.proofs.Common.{ap, ◌∙◌, arith}
use Rattle.dcr_turn.specs.Records.{first_seen, sessions_from}
use Rattle.dcr_turn.proofs.GivingOut.{site_cut, site_kept, fronts_more}
use Rattle.dcr_turn.proofs.opening.first_fronts.Goals as goal

pub push_reserved-requires : goal.push_reserved-requires
push_reserved-requires g c = omega (arith, c.loop-i.invariant.count, c.loop-i.invariant.room, c.loop-i-test.true)

pub loop-i-preserved : goal.loop-i-preserved
loop-i-preserved g c =
    let rest = sessions_from 0 g.N.TurnName.turn.sessions in
    let out = site_cut c.loop-i.i c.args.sites rest c.loop-i.records c.cut.result c.loop-i-test.true c.loop-i.invariant.records c.cut.ensures.cut in record {
      fronts = fronts_more c.loop-i.i c.loop-i.fronts.items c.push_reserved.new.self.items c.new.result c.loop-i.invariant.fronts c.push_reserved.ensures.items c.new.ensures.site (c.new.ensures.front ∙ ap first_seen out);
      count = omega (arith, c.loop-i.invariant.count, c.push_reserved.ensures.len);
      room = omega (arith, c.loop-i.invariant.room, c.push_reserved.ensures.capacity);
      records = site_kept c.loop-i.i c.args.sites rest c.loop-i.records c.cut.new.self c.loop-i-test.true c.loop-i.invariant.records c.cut.ensures.kept;
    }
