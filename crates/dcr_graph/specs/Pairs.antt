-- Relations as a list of pairs, and the least pair that is both an include and an exclude.
use Rattle.std.specs.Prelude.{◌≡◌, ℕ, ◌<◌, Bool, ◌&&◌, ◌==◌, List, Option, Some, option_map}
use Rattle.std.specs.List.{list_any, All}
use Rattle.std.specs.Option.{option_and_then}
use Rattle.dcr_set.specs.Least.{least, some_below}
use Rattle.dcr_graph.specs.Rules.{Rules, same_kind}
use Rattle.dcr_graph.specs.declared.kind.Kind.{Kind}
use Rattle.dcr_graph.specs.declared.kind.Kind.TheVariants.{Include, Exclude}
use Rattle.dcr_graph.specs.declared.graph.GraphStop.{GraphStop}
use Rattle.dcr_graph.specs.declared.graph.GraphStop.TheVariants.{Clash, NoMemory}

-- a pair of atoms with its kind
abbrev pub Pair : Type 0
Pair = Kind × ℕ × ℕ

-- whether a pair is in the list
abbrev pub is_listed : List Pair → Kind → ℕ → ℕ → Bool
is_listed pairs kind a b = list_any (λ pair. same_kind pair.0 kind && ((pair.1 == a) && (pair.2 == b))) pairs

-- the relation of a list of pairs between n atoms
abbrev pub rules_listed : ℕ → List Pair → Rules
rules_listed n pairs = record { atoms = n; related = is_listed pairs }

-- the ends of each pair are atoms
abbrev pub AreInRange : ℕ → List Pair → Type 0
AreInRange n pairs = All (λ (pair : Pair). (pair.1 < n) × (pair.2 < n)) pairs

-- a pair is both an include and an exclude
abbrev pub clashes : Rules → ℕ → ℕ → Bool
clashes G a b = G.related Include a b && G.related Exclude a b

-- the least such pair, by a and then by b
abbrev pub first_clash : Rules → Option (ℕ × ℕ)
first_clash G = option_and_then (λ a. option_map (λ b. (a, b)) (least G.atoms (clashes G a))) (least G.atoms (λ a. some_below G.atoms (clashes G a)))

-- a refusal tells the clash; want of memory tells nothing
abbrev pub TellsClash : Option (ℕ × ℕ) → GraphStop → Type 0
TellsClash clash (Clash a b) = clash ≡ Some (a, b)
TellsClash clash NoMemory = Unit {0}
