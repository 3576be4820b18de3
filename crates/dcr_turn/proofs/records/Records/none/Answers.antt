use Rattle.std.proofs.Common.{arith}
use Rattle.dcr_turn.proofs.Keeping.{sits}
use Rattle.dcr_turn.proofs.records.Records.none.Goals as goal

pub load_new_seat-seat-requires : goal.load_new_seat-seat-requires
load_new_seat-seat-requires g c = let order = c.args.order.now in (omega arith, sits _ _ _)
