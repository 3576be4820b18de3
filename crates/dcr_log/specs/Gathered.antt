-- ---- for private clauses: traces that grow by one event after the other
use Rattle.std.specs.Prelude.{◌≡◌, ℕ, ◌+◌, ◌<◌, ◌⊎◌, List, [], ◌∷◌, ◌++◌, length, map, slice_index_or, Option, Some, if◌then◌else◌}
use Rattle.std.specs.Str.{bytes_eq}
use Rattle.std.specs.Ordering.{nat_cmp}
use Rattle.std.specs.Cmp.Lexicographic.{slice_cmp}
use Rattle.std.specs.BTreeMap as tree
use Rattle.dcr_graph.specs.IndexModel.{place_among}
use Rattle.dcr_graph.specs.Names.{AreDistinct, number_of}
use Rattle.dcr_log.specs.declared.gathering.Gathering.{Gathering}
use Rattle.dcr_log.specs.declared.places.Places.{Places}
use Rattle.dcr_log.specs.declared.trace.Trace.{Trace}

abbrev pub names_of : List Trace → List (List ℕ)
names_of traces = map (λ (trace : Trace). trace.name) traces

-- a trace with one event more
abbrev pub longer : Trace → List ℕ → Trace
longer trace event = record { name = trace.name; events = trace.events ++ event ∷ [] }

-- traces with one event more: at the first of this name, or as a trace of its own behind all
unfoldable pub with_event : List Trace → List ℕ → List ℕ → List Trace
with_event [] name event = record { name = name; events = event ∷ [] } ∷ []
with_event (trace ∷ traces) name event =
    if bytes_eq trace.name name then longer trace event ∷ traces else trace ∷ with_event traces name event

-- places by name
abbrev pub Others : Type 0
Others = tree.BTreeMap (List ℕ) ℕ

abbrev pub place_in : Others → List ℕ → Option ℕ
place_in others name = tree.get (slice_cmp nat_cmp) others name

-- what the slot of a name holds: 0, or a place and one more
abbrev pub held_in : Places → List ℕ → ℕ
held_in p name = slice_index_or p.slots.items (place_among (length p.slots.items) p.start name) 0

-- each name's place stands in its slot, or else in the map, where another has the slot; and the map has no other place of it
pub record AreNoted (p : Places) (names : List (List ℕ)) : Type 0 where
  pub some : 0 < length p.slots.items
  pub found : (name : List ℕ) (k : ℕ) → number_of names name ≡ Some k → (held_in p name ≡ k + 1) ⊎ ((0 < held_in p name) × (place_in p.others name ≡ Some k))
  pub known : (name : List ℕ) (k : ℕ) → place_in p.others name ≡ Some k → number_of names name ≡ Some k

-- no two traces have one name, and each is found by its own
pub record IsGathering (g : Gathering) : Type 0 where
  pub distinct : AreDistinct (names_of g.traces.items)
  pub noted : AreNoted g.places (names_of g.traces.items)
