-- The nested graph of a load: 200 nodes that are all atoms, and what 600 draws relate.
use Rattle.std.specs.Prelude.{ℕ, ◌+◌, ◌*◌, ◌%◌, ◌==◌, List, ◌∷◌, Option, Some, None, decimal, min, max, if◌then◌else◌}
use Rattle.dcr_graph.specs.Pairs.{Pair}
use Rattle.dcr_graph.specs.declared.kind.Kind.{Kind}
use Rattle.dcr_graph.specs.declared.kind.Kind.TheVariants.{Condition, Response, Milestone, Include, Exclude}
use Rattle.dcr_nest.specs.Nest.{Nest, nest}
use Rattle.dcr_nest.specs.declared.node.Node.{Node}
use Rattle.dcr_nest.specs.declared.node.Version.TheVariants.{V1}
use Rattle.dcr_load.specs.Each.{each_below, some_of_each_below}
use Rattle.dcr_load.specs.Words.{picked}

-- e and the number
abbrev pub atom_name : ℕ → List ℕ
atom_name i = 101 ∷ decimal i

-- a node without a parent, whose label is its name
abbrev pub node_at : ℕ → Node
node_at i = record { name = atom_name i; parent = None; label = atom_name i }

-- from the smaller to the larger, and none from an atom to itself
abbrev pub forward : Kind → ℕ → ℕ → Option Pair
forward kind a b = if a == b then None else Some (kind, min a b, max a b)

-- an include where the sum is even, and else an exclude
abbrev pub include_or_exclude : ℕ → ℕ → Kind
include_or_exclude a b = if (a + b) % 2 == 0 then Include else Exclude

-- the relation of two atoms by the kind that was drawn
unfoldable pub drawn : ℕ → ℕ → ℕ → Option Pair
drawn kind a b =
    if kind == 0 then forward Condition a b
    else if kind == 1 then forward Milestone a b
    else if kind == 2 then Some (Response, a, b)
    else Some (include_or_exclude a b, a, b)

-- draw t takes three words, behind the 200 that say who owns which atom
abbrev pub relation_at : ℕ → ℕ → Option Pair
relation_at number t = drawn (picked number (200 + 3 * t) 4) (picked number (201 + 3 * t) 200) (picked number (202 + 3 * t) 200)

abbrev pub load_nest : ℕ → Nest
load_nest number = nest V1 (each_below 200 node_at) (some_of_each_below 600 (relation_at number))
