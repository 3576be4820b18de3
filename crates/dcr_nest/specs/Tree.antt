-- Nodes as the list of the parent of each: none, or a node that stands earlier.
use Rattle.std.specs.Prelude.{◌≡◌, ℕ, zero, suc, ◌<◌, Bool, false, not, ◌||◌, ◌==◌, List, length, filter, position, Option, Some, None, slice_index_or}
use Rattle.std.specs.List.{list_any, range_with_len}
use Rattle.std.specs.Option.{option_map_or}
use Rattle.dcr_set.specs.EventSet.{Set, those}

abbrev pub Parents : Type 0
Parents = List (Option ℕ)

abbrev pub parent_of : Parents → ℕ → Option ℕ
parent_of parents x = slice_index_or parents x None

abbrev pub AreEarlier : Parents → Type 0
AreEarlier parents = (x p : ℕ) → parent_of parents x ≡ Some p → p < x

-- following parents from x, in at most n steps, meets a node that passes
unfoldable pub meets : Parents → (ℕ → Bool) → ℕ → ℕ → Bool
meets parents passes zero x = passes x
meets parents passes (suc n) x = passes x || option_map_or (meets parents passes n) (parent_of parents x) false

-- x is at or below y: following parents from x reaches y in zero or more steps, which are fewer than the nodes
abbrev pub is_at_or_below : Parents → ℕ → ℕ → Bool
is_at_or_below parents x y = meets parents (λ z. z == y) (length parents) x

-- whether the node is the parent of one
abbrev pub is_parent : Parents → ℕ → Bool
is_parent parents x = list_any (λ parent. option_map_or (λ p. p == x) parent false) parents

-- the atoms, which are the nodes that are nobody's parent, in order
unfoldable pub atoms : Parents → List ℕ
atoms parents = filter (λ x. not (is_parent parents x)) (range_with_len 0 (length parents))

-- the number of an atom is its place among them; a node that is a parent has none
abbrev pub atom_number : Parents → ℕ → Option ℕ
atom_number parents x = position (λ y. y == x) (atoms parents)

-- the atoms at or below a node, by their numbers
unfoldable pub atoms_below : Parents → ℕ → Set
atoms_below parents y = those (length (atoms parents)) (λ e. is_at_or_below parents (slice_index_or (atoms parents) e 0) y)
