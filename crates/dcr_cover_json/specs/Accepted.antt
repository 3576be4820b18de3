-- Which covers of a nested graph are accepted, and what a reader of their canonical texts finds.
use Rattle.std.specs.Prelude.{◌≡◌, ◌≢◌, ℕ, List, ◌++◌, length, Option, MatchOption}
use Rattle.std.specs.List.{All}
use Rattle.serde_json.specs.Data.{Data}
use Rattle.dcr_nest.specs.Nest.{Nest}
use Rattle.dcr_proj.specs.CoverValue.{Owners, IsCover}
use Rattle.dcr_format.specs.Facts.{Fact}
use Rattle.dcr_format.specs.Texts.{AreAllNames}
use Rattle.dcr_graph_json.specs.Build.{atom_names}
use Rattle.dcr_cover_json.specs.Build.{build_facts}
use Rattle.dcr_cover_json.specs.Limits.{limit_facts}
use Rattle.dcr_cover_json.specs.Shape.{shape_facts, sites_in}
use Rattle.dcr_cover_json.specs.Sites.{atom_count}
use Rattle.dcr_cover_json.specs.Text.{cover_text}

-- all facts of a cover of this graph, in the order in which they are tried where nothing else stands beside it
abbrev pub cover_facts : Nest → Option Data → List Fact
cover_facts N cover = shape_facts cover ++ (limit_facts (sites_in cover) ++ build_facts N (sites_in cover))

-- a cover of the graph that no refusal of a case file refuses: 1 to 64 sites with distinct names that are names, a set
-- of the atoms for each, and each atom owned
pub record IsAcceptedCover (N : Nest) (cover : Owners) : Type 0 where
  pub is_cover : IsCover cover
  pub names : AreAllNames cover.names
  pub rooms : All (λ set. length set ≡ atom_count N) cover.owned

-- the cover whose canonical text the bytes are, where there is an accepted one of this graph, and else none
abbrev pub IsCoverIn : Nest → List ℕ → Option Owners → Type 0
IsCoverIn N bytes found = MatchOption found ((cover : Owners) → IsAcceptedCover N cover → bytes ≢ cover_text (atom_names N) cover) (λ cover. IsAcceptedCover N cover × (bytes ≡ cover_text (atom_names N) cover))
