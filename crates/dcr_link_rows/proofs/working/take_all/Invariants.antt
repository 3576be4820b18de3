use Rattle.std.proofs.Common.{◌≡◌}
use Rattle.dcr_link_rows.proofs.working.take_all.Given as goal

abbrev pub invariant-loop : goal.invariant-loop
invariant-loop g l = l.share.parts ≡ l.initial.share.parts
