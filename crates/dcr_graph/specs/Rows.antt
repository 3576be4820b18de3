-- A list of sets, one for each atom.
use Rattle.std.specs.Prelude.{ℕ, Bool, List, [], slice_index_or}
use Rattle.dcr_set.specs.EventSet.{Set, has}

-- the set of an atom
abbrev pub row : List Set → ℕ → Set
row table a = slice_index_or table a []

-- whether b is in the set of a
abbrev pub leads : List Set → ℕ → ℕ → Bool
leads table a b = has (row table a) b
