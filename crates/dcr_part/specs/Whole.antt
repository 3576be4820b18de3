-- A case at one of its sites, and the part that it has there.
use Rattle.std.specs.Prelude.{◌≡◌, ℕ, ◌<◌, ◌≤◌, true, List, length, Option, Some, None, slice_index_or}
use Rattle.hex.specs.Hex.{IsBytes}
use Rattle.dcr_set.specs.EventSet.{Set, those}
use Rattle.dcr_graph.specs.Names.{is_name}
use Rattle.dcr_graph.specs.Pairs.{first_clash}
use Rattle.dcr_graph.specs.Projection.{in_alphabet, local_rules, project, HasRoom}
use Rattle.dcr_graph.specs.Rules.{Rules}
use Rattle.dcr_graph.specs.declared.marking.Marking.{Marking}
use Rattle.dcr_part.specs.Told.{Told, told, told_names, AreDistinct}
use Rattle.dcr_part.specs.PartText.{told_text}
use Rattle.dcr_part.specs.declared.head.PartHead.{PartHead}

-- the digest of a case, one of its sites by number and name, the names of its atoms, its rules, what the site owns, and
-- the opening marking
pub record Whole : Type 0 where
  pub head : PartHead
  pub names : List (List ℕ)
  pub rules : Rules
  pub own : Set
  pub opening : Marking

abbrev pub whole : PartHead → List (List ℕ) → Rules → Set → Marking → Whole
whole head names rules own opening = record { head = head; names = names; rules = rules; own = own; opening = opening }

abbrev pub alphabet_of : Whole → Set
alphabet_of W = those W.rules.atoms (in_alphabet W.rules W.own)

-- what the site's part tells
abbrev pub part_of : Whole → Told
part_of W = told W.head (local_rules W.rules W.own) W.own (alphabet_of W) (told_names (alphabet_of W) W.names) (project W.rules W.own W.opening)

-- the text of the site's part
abbrev pub part_text : Whole → List ℕ
part_text W = told_text (part_of W)

-- names that are told are names, and no two events have one
pub record AreToldNames (names : List (Option (List ℕ))) : Type 0 where
  pub are_names : (e : ℕ) (name : List ℕ) → slice_index_or names e None ≡ Some name → is_name name ≡ true
  pub distinct : AreDistinct names

-- within the limits of a case file: so many atoms, sets over these, a digest of 32 bytes, a site's number and name, names on
-- the alphabet, and no pair of atoms both included and excluded
pub record IsWhole (W : Whole) : Type 0 where
  pub atoms : W.rules.atoms ≤ 1024
  pub own : length W.own ≡ W.rules.atoms
  pub opening : HasRoom W.rules.atoms W.opening
  pub digest : length W.head.digest ≡ 32
  pub bytes : IsBytes W.head.digest
  pub site : W.head.site < 64
  pub site_name : is_name W.head.name ≡ true
  pub named : AreToldNames (part_of W).names
  pub unclashed : first_clash W.rules ≡ None
