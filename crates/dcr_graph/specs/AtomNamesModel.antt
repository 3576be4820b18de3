-- What the fields of the names of a graph's atoms stand for.
use Rattle.std.specs.Prelude.{◌≡◌, ℕ, ◌+◌, ◌≤◌, List, length, slice_index_or}
use Rattle.std.specs.List.{range_with_len}
use Rattle.dcr_graph.specs.Names.{comma_names}
use Rattle.dcr_graph.specs.declared.atom_names.AtomNames.TheInside.{Inside}

abbrev pub names_in : Inside → List (List ℕ)
names_in x = x.names.items

-- each start is where the comma of a name stands in the joined text, and the last one is where that ends
abbrev pub AreStarts : List (List ℕ) → List ℕ → ℕ → Type 0
AreStarts names starts count = (k : ℕ) → k ≤ count → slice_index_or starts k 0 ≡ length (comma_names names (range_with_len 0 k))

-- the text is all names, each behind a comma
pub record IsJoined (x : Inside) : Type 0 where
  pub most : length x.names.items ≤ 1024
  pub joined : x.joined.items ≡ comma_names x.names.items (range_with_len 0 (length x.names.items))
  pub as_many : length x.starts.items ≡ length x.names.items + 1
  pub starts : AreStarts x.names.items x.starts.items (length x.names.items)
