-- That the value of an accepted cover is read back, and what any canonical text is.
use Rattle.std.specs.Prelude.{◌≡◌, ℕ, List, Option, None, Some}
use Rattle.serde_json.specs.Data.{Data}
use Rattle.serde_json.specs.Read.{read}
use Rattle.dcr_format.specs.SizeLaws.{json_in}
use Rattle.dcr_nest.specs.Nest.{Nest, IsNested, names_of}
use Rattle.dcr_proj.specs.CoverValue.{Owners}
use Rattle.dcr_format.specs.Facts.{first}
use Rattle.dcr_format.specs.Texts.{AreAllNames, IsOneLine}
use Rattle.dcr_graph_json.specs.Build.{atom_names}
use Rattle.dcr_cover_json.specs.Accepted.{IsAcceptedCover, cover_facts}
use Rattle.dcr_cover_json.specs.Shape.{sites_in}
use Rattle.dcr_cover_json.specs.Sites.{cover_in}
use Rattle.dcr_cover_json.specs.Text.{cover_text, cover_value}

pub record AreReadBack : Type 0 where
  -- every fact of a cover holds of the value of an accepted one, which writes that cover
  pub facts : (N : Nest) (C : Owners) → IsNested N → IsAcceptedCover N C → first (cover_facts N (Some (cover_value (atom_names N) C))) ≡ None
  pub cover : (N : Nest) (C : Owners) → IsNested N → IsAcceptedCover N C → cover_in N (sites_in (Some (cover_value (atom_names N) C))) ≡ C
  -- and what is written by these facts is an accepted cover
  pub accepted : (N : Nest) (d : Option Data) → first (cover_facts N d) ≡ None → IsAcceptedCover N (cover_in N (sites_in d))
  -- the canonical text is read as the value, is JSON where the names are names, and has no line end
  pub text : (atoms : List (List ℕ)) (C : Owners) → read (cover_text atoms C) ≡ Some (cover_value atoms C)
  pub json : (N : Nest) (C : Owners) → AreAllNames (names_of N.nodes) → IsAcceptedCover N C → json_in (cover_text (atom_names N) C) ≡ Some (cover_value (atom_names N) C)
  pub one_line : (atoms : List (List ℕ)) (C : Owners) → IsOneLine (cover_text atoms C)
  pub one : (N : Nest) (C D : Owners) → IsNested N → IsAcceptedCover N C → IsAcceptedCover N D → cover_text (atom_names N) C ≡ cover_text (atom_names N) D → C ≡ D
