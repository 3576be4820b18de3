-- The marking with which a case goes on as another one: an atom keeps its marks by its name, and a new one has those that
-- its file gives it.
use Rattle.std.specs.Prelude.{ℕ, Bool, false, List, [], length, slice_get, slice_index_or, Option}
use Rattle.std.specs.Option.{option_and_then, option_map_or}
use Rattle.dcr_set.specs.Least.{least}
use Rattle.dcr_set.specs.EventSet.{Set, has, those}
use Rattle.dcr_graph.specs.Names.{number_of}
use Rattle.dcr_graph.specs.Rows.{row}
use Rattle.dcr_graph.specs.declared.marking.Marking.{Marking}
use Rattle.dcr_graph.specs.declared.marking.SiteMark.{SiteMark}

-- atom b of the next names goes on with a mark: the atom with its name among these names had it, or there is none and the
-- file gives it
abbrev pub is_carried : List (List ℕ) → (ℕ → Bool) → List (List ℕ) → Set → ℕ → Bool
is_carried names had next given b = option_map_or had (number_of names (slice_index_or next b [])) (has given b)

-- the atoms of the next names that do
abbrev pub carried_set : List (List ℕ) → Set → List (List ℕ) → Set → Set
carried_set names had next given = those (length next) (is_carried names (has had) next given)

-- the marking M of the atoms with these names, carried to those with the next names, whose file opens so
abbrev pub carried : List (List ℕ) → Marking → List (List ℕ) → Marking → Marking
carried names M next opening = record {
  executed = carried_set names M.executed next opening.executed;
  pending = carried_set names M.pending next opening.pending;
  included = carried_set names M.included next opening.included;
}

-- ---- by the marks that the sites have

-- the marks of the least site that owns the atom
abbrev pub owners_mark : List Set → List SiteMark → ℕ → Option SiteMark
owners_mark C marks a = option_and_then (slice_get marks) (least (length C) (λ i. has (row C i) a))

-- the atom is in that part of them
abbrev pub keeps : (SiteMark → Set) → List Set → List SiteMark → ℕ → Bool
keeps part C marks a = option_map_or (λ m. has (part m) a) (owners_mark C marks a) false

abbrev pub keeps_executed : List Set → List SiteMark → ℕ → Bool
keeps_executed C marks a = keeps (λ m. m.executed) C marks a

abbrev pub keeps_pending : List Set → List SiteMark → ℕ → Bool
keeps_pending C marks a = keeps (λ m. m.pending) C marks a

abbrev pub keeps_included : List Set → List SiteMark → ℕ → Bool
keeps_included C marks a = keeps (λ m. m.included) C marks a

-- the marking in which each of so many atoms has the marks that the least site has that owns it
abbrev pub by_owners : ℕ → List Set → List SiteMark → Marking
by_owners atoms C marks = record {
  executed = those atoms (keeps_executed C marks);
  pending = those atoms (keeps_pending C marks);
  included = those atoms (keeps_included C marks);
}
