-- What the fields of a cluster stand for.
use Rattle.std.specs.Prelude.{◌≡◌, ℕ, ◌≤◌, List, [], length, Vec, vec_capacity}
use Rattle.std.specs.List.{range_with_len}
use Rattle.std.specs.declared.alloc.Global.{Global}
use Rattle.dcr_graph.specs.declared.marking.Marking.{Marking}
use Rattle.dcr_graph.specs.declared.marking.SiteMark.{SiteMark}
use Rattle.dcr_set.specs.EventSet.{Set}
use Rattle.dcr_turn.specs.FrontValue.{FrontValue}
use Rattle.dcr_turn.specs.TurnId.{TurnId}
use Rattle.dcr_cell.specs.ClusterId.{ClusterId, IsNamed, begun}

-- each place has the cell of its site, and the network, the owned sets and the marking are those of the named cluster
pub record IsCluster (c : ClusterId) (turn : TurnId) (capacity places : ℕ) (network owned : List Set) (every : List ℕ) (opening : Marking) : Type 0 where
  pub named : IsNamed c turn
  pub most_entries : capacity ≤ 200000
  pub cells : places ≡ length c.owned
  pub alphabets : network ≡ turn.alphabets
  pub owned_sets : owned ≡ c.owned
  pub every_site : every ≡ range_with_len 0 (length c.owned)
  pub begins : opening ≡ begun c

-- there is room for the fronts of so many sites, and no front yet
pub record IsFrontRoom (sites : ℕ) (fronts : Vec FrontValue Global) : Type 0 where
  pub no_front : fronts.items ≡ []
  pub for_fronts : sites ≤ vec_capacity fronts

-- there is room for what comes back from so many sites: that for the fronts lies at one place
pub record HasRoomFor (sites rooms : ℕ) (marks : Vec SiteMark Global) : Type 0 where
  pub one_room : rooms ≡ 1
  pub no_mark : marks.items ≡ []
  pub for_marks : sites ≤ vec_capacity marks
