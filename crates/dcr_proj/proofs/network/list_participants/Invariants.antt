use Rattle.std.proofs.Common.{◌≡◌, map}
use Rattle.std.specs.List.{range_with_len}
use Rattle.dcr_proj.specs.NetworkValue.{participants_of}
use Rattle.dcr_proj.proofs.network.list_participants.Given as goal

-- the lists of the events before this one
abbrev pub invariant-loop-number : goal.invariant-loop-number
invariant-loop-number l = map (λ list. list.items) l.lists.items ≡ map (participants_of l.alphabets) (range_with_len 0 l.number)
