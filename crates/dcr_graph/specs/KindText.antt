-- The word that each kind of relation is written with.
use Rattle.std.specs.Prelude.{ℕ, List, codes}
use Rattle.dcr_graph.specs.declared.kind.Kind.{Kind}
use Rattle.dcr_graph.specs.declared.kind.Kind.TheVariants.{Condition, Response, Milestone, Include, Exclude, Cancel}

abbrev pub kind_text : Kind → List ℕ
kind_text Condition = codes "condition"
kind_text Response = codes "response"
kind_text Milestone = codes "milestone"
kind_text Include = codes "include"
kind_text Exclude = codes "exclude"
kind_text Cancel = codes "cancel"
