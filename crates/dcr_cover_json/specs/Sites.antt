-- The sites of a case file as they are written, and what their texts mean for a nested graph.
use Rattle.std.specs.Prelude.{ℕ, Bool, false, codes, List, [], length, map, Option, unwrap_or, slice_index_or}
use Rattle.std.specs.List.{list_any}
use Rattle.std.specs.Option.{option_map_or}
use Rattle.serde_json.specs.Data.{Data}
use Rattle.serde_json.specs.Find.{as_str}
use Rattle.dcr_set.specs.EventSet.{Set, those}
use Rattle.dcr_graph.specs.Names.{number_of}
use Rattle.dcr_nest.specs.Nest.{Nest, names_of, parents_of}
use Rattle.dcr_nest.specs.Tree.{atoms, is_at_or_below}
use Rattle.dcr_proj.specs.CoverValue.{Owners, owners}
use Rattle.dcr_format.specs.Members.{array_at, text_at}

-- ---- a site

-- its name, and its owned texts
abbrev pub Site : Type 0
Site = List ℕ × List (List ℕ)

abbrev pub name_in : Data → List ℕ
name_in d = unwrap_or (text_at (codes "site") d) []

abbrev pub owned_in : Data → List (List ℕ)
owned_in d = map (λ text. unwrap_or (as_str text) []) (unwrap_or (array_at (codes "events") d) [])

-- the site that a value writes
abbrev pub site_in : Data → Site
site_in d = (name_in d, owned_in d)

-- the site at a place
abbrev pub site_at : List Site → ℕ → Site
site_at sites i = slice_index_or sites i ([], [])

-- the text at a place of a site
abbrev pub owned_at : Site → ℕ → List ℕ
owned_at site j = slice_index_or site.1 j []

abbrev pub names_in : List Site → List (List ℕ)
names_in sites = map (λ site. site.0) sites

-- ---- what its texts mean

-- how many of the nodes are atoms
abbrev pub atom_count : Nest → ℕ
atom_count N = length (atoms (parents_of N.nodes))

-- the node of an atom
abbrev pub node_of : Nest → ℕ → ℕ
node_of N atom = slice_index_or (atoms (parents_of N.nodes)) atom 0

-- the node that a text names
abbrev pub node_named : Nest → List ℕ → Option ℕ
node_named N text = number_of (names_of N.nodes) text

-- the text names a node that the atom is at or below
abbrev pub means : Nest → List ℕ → ℕ → Bool
means N text atom = option_map_or (is_at_or_below (parents_of N.nodes) (node_of N atom)) (node_named N text) false

-- the atoms that one of the texts means; a text that stands twice counts once
abbrev pub set_meant : Nest → List (List ℕ) → Set
set_meant N texts = those (atom_count N) (λ atom. list_any (λ text. means N text atom) texts)

-- the sites by name, and what they own
unfoldable pub cover_in : Nest → List Site → Owners
cover_in N sites = owners (names_in sites) (map (λ site. set_meant N site.1) sites)
