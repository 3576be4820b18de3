-- What the fields of a nested graph stand for.
use Rattle.dcr_nest.specs.Nest.{Nest, IsNested}
use Rattle.dcr_nest.specs.declared.nested.Nested.TheInside.{Inside}

abbrev pub nest_of : Inside → Nest
nest_of n = record { version = n.version; nodes = n.nodes.items; relations = n.relations.items }

abbrev pub IsNestedInside : Inside → Type 0
IsNestedInside n = IsNested (nest_of n)
