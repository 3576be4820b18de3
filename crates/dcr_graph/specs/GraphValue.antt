-- A graph as contracts see it.
use Rattle.std.specs.Prelude.{ℕ, List, [], length, slice_index_or}
use Rattle.dcr_set.specs.EventSet.{Set}
use Rattle.dcr_graph.specs.Rules.{Rules, kind_number}
use Rattle.dcr_graph.specs.Rows.{leads}
use Rattle.dcr_graph.specs.declared.kind.Kind.{Kind}

-- names and labels in order, and for each kind, by its number, the targets of each atom
pub record Flat : Type 0 where
  pub names : List (List ℕ)
  pub labels : List (List ℕ)
  pub tables : List (List Set)

abbrev pub flat : List (List ℕ) → List (List ℕ) → List (List Set) → Flat
flat names labels tables = record { names = names; labels = labels; tables = tables }

-- the targets of each atom by a kind
abbrev pub targets_by : Flat → Kind → List Set
targets_by g kind = slice_index_or g.tables (kind_number kind) []

-- the flat relation of the graph
abbrev pub rules_of : Flat → Rules
rules_of g = record { atoms = length g.names; related = λ kind a b. leads (targets_by g kind) a b }
