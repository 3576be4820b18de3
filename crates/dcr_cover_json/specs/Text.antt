-- The JSON value of a cover, and its canonical text.
use Rattle.std.specs.Prelude.{ℕ, List, [], codes, length, map, slice_index_or}
use Rattle.std.specs.List.{range_with_len}
use Rattle.serde_json.specs.Data.{Data, string, array, object, no_members, member}
use Rattle.serde_json.specs.View.{items_of}
use Rattle.serde_json.specs.Written.{compact_text}
use Rattle.dcr_set.specs.EventSet.{Set, numbers}
use Rattle.dcr_proj.specs.CoverValue.{Owners}
use Rattle.dcr_graph_json.specs.Text.{name_value}

-- the names of the atoms in a set, in ascending order of number
abbrev pub owned_values : List (List ℕ) → Set → List Data
owned_values atoms owned = map (name_value atoms) (numbers owned)

-- a site: `events` and `site`
abbrev pub site_value : List (List ℕ) → List ℕ → Set → Data
site_value atoms name owned = object (member (codes "events") (array (items_of (owned_values atoms owned))) (member (codes "site") (string name) no_members))

abbrev pub site_value_at : List (List ℕ) → Owners → ℕ → Data
site_value_at atoms cover i = site_value atoms (slice_index_or cover.names i []) (slice_index_or cover.owned i [])

-- the sites in order
abbrev pub site_values : List (List ℕ) → Owners → List Data
site_values atoms cover = map (site_value_at atoms cover) (range_with_len 0 (length cover.names))

-- a cover of atoms with these names
unfoldable pub cover_value : List (List ℕ) → Owners → Data
cover_value atoms cover = array (items_of (site_values atoms cover))

unfoldable pub cover_text : List (List ℕ) → Owners → List ℕ
cover_text atoms cover = compact_text (cover_value atoms cover)
