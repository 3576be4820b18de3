-- What the fields of a network stand for.
use Rattle.std.specs.Prelude.{◌≡◌, List, map}
use Rattle.dcr_set.specs.EventSet.{Set}
use Rattle.dcr_proj.specs.NetworkValue.{IsNetwork, lists_of}
use Rattle.dcr_proj.specs.declared.network.Network.TheInside.{Inside}

abbrev pub alphabets_of : Inside → List Set
alphabets_of n = n.alphabets.items

-- the participants of each event are listed
pub record FitsNetwork (n : Inside) : Type 0 where
  pub network : IsNetwork n.alphabets.items
  pub listed : map (λ list. list.items) n.participants.items ≡ lists_of n.alphabets.items
