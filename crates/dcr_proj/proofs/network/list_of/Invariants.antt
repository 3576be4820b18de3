use Rattle.std.proofs.Common.{◌≡◌}
use Rattle.dcr_set.proofs.NumbersLemmas.{passing}
use Rattle.dcr_proj.proofs.NetworkLemmas.{hears}
use Rattle.dcr_proj.proofs.network.list_of.Given as goal

-- the sites before i that hear of the event
abbrev pub invariant-loop-i : goal.invariant-loop-i
invariant-loop-i l = l.list.items ≡ passing 0 l.i (hears l.alphabets l.e)
