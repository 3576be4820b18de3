-- The flat relation: how many atoms there are, and which of them are related by each kind.
use Rattle.std.specs.Prelude.{ℕ, Bool, ◌==◌}
use Rattle.dcr_graph.specs.declared.kind.Kind.{Kind}
use Rattle.dcr_graph.specs.declared.kind.Kind.TheVariants.{Condition, Response, Milestone, Include, Exclude, Cancel}

pub record Rules : Type 0 where
  pub atoms : ℕ
  -- related kind a b: a is a condition event of b, executing a makes b pending, and so on by the kind
  pub related : Kind → ℕ → ℕ → Bool

abbrev pub kind_number : Kind → ℕ
kind_number Condition = 0
kind_number Response = 1
kind_number Milestone = 2
kind_number Include = 3
kind_number Exclude = 4
kind_number Cancel = 5

abbrev pub same_kind : Kind → Kind → Bool
same_kind k l = kind_number k == kind_number l
