-- Which nested graphs and covers some case file spells: exactly the accepted ones.
use Rattle.std.specs.Prelude.{◌≡◌, ◌↔◌, ℕ, List, Ok}
use Rattle.dcr_nest.specs.Nest.{Nest}
use Rattle.dcr_proj.specs.CoverValue.{Owners}
use Rattle.dcr_graph_json.specs.Accepted.{IsAcceptedGraph}
use Rattle.dcr_cover_json.specs.Accepted.{IsAcceptedCover}
use Rattle.dcr_json.specs.Case.{case_in}
use Rattle.dcr_json.specs.Written.{Spelled}

-- there are bytes that are read as a case with this nested graph and this cover
pub record IsSpelled (N : Nest) (cover : Owners) : Type 0 where
  pub bytes : List ℕ
  pub case : Spelled
  pub read : case_in bytes ≡ Ok case
  pub nested : case.nested ≡ N
  pub owners : case.cover ≡ cover

pub record AcceptedIsSpelled : Type 0 where
  -- a nested graph and a cover are accepted exactly where some case file spells both
  pub both : (N : Nest) (cover : Owners) → (IsAcceptedGraph N.version N × IsAcceptedCover N cover) ↔ IsSpelled N cover
  -- a nested graph is accepted exactly where some case file spells it, with some cover
  pub graph : (N : Nest) → IsAcceptedGraph N.version N ↔ ((cover : Owners) × IsSpelled N cover)
