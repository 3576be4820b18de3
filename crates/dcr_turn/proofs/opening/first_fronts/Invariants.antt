use Rattle.std.proofs.Common.{◌≡◌, ◌≤◌, ◌-◌, ◌∷◌, ◌++◌, [], vec_len, vec_capacity}
use Rattle.dcr_turn.specs.FrontValue.{new_fronts}
use Rattle.dcr_turn.specs.Records.{knowing, sites_from, sessions_from}
use Rattle.dcr_turn.specs.declared.record.Holder.TheVariants.{Journal}
use Rattle.dcr_turn.proofs.opening.first_fronts.Given as goal

-- the sites before this one have their fronts, and the records of the others are left
abbrev pub invariant-loop-i : goal.invariant-loop-i
invariant-loop-i g l = record {
  fronts : l.fronts.items ≡ new_fronts l.i;
  count : vec_len l.fronts ≡ l.i;
  room : l.sites ≤ vec_capacity l.fronts;
  records : l.records ≡ knowing [] Journal ∷ sites_from l.i (l.sites - l.i) ++ sessions_from 0 g.N.TurnName.turn.sessions;
}
