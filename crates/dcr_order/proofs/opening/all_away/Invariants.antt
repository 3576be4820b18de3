use Rattle.std.proofs.Common.{◌≡◌, ◌≤◌, replicate, vec_len, vec_capacity}
use Rattle.dcr_order.specs.declared.place.Place.TheVariants.{Away}
use Rattle.dcr_order.proofs.opening.all_away.Given as goal

abbrev pub invariant-loop-number : goal.invariant-loop-number
invariant-loop-number g l = record {
  items : l.places.items ≡ replicate l._number Away;
  count : vec_len l.places ≡ l._number;
  room : l.fn.sites ≤ vec_capacity l.places;
}
