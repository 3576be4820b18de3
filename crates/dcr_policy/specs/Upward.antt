-- What stands at a node, then at its parent, and so on upwards.
use Rattle.std.specs.Prelude.{ℕ, zero, suc, List, [], ◌++◌, length, slice_index_or}
use Rattle.std.specs.Option.{option_map_or}
use Rattle.dcr_nest.specs.Tree.{Parents, parent_of}

-- one after the other, the lists of the nodes that following parents from x meets in at most n steps
unfoldable pub climbed : {A : Type 0} → Parents → List (List A) → ℕ → ℕ → List A
climbed parents lists zero x = slice_index_or lists x []
climbed parents lists (suc n) x = slice_index_or lists x [] ++ option_map_or (climbed parents lists n) (parent_of parents x) []

-- the list of x, then that of its parent, and so on upwards, in steps that are fewer than the nodes
abbrev pub upward : {A : Type 0} → Parents → List (List A) → ℕ → List A
upward parents lists x = climbed parents lists (length parents) x
