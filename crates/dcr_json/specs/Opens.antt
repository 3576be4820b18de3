-- The opening marking of a case by the members of the events that are written in its file.
use Rattle.std.specs.Prelude.{◌≡◌, ◌≢◌, ◌↔◌, ℕ, true, false, codes, List, length, Some, Ok}
use Rattle.std.specs.List.{slice_get}
use Rattle.serde_json.specs.Data.{Data, boolean}
use Rattle.serde_json.specs.Find.{get}
use Rattle.dcr_set.specs.EventSet.{has}
use Rattle.dcr_graph.specs.Projection.{HasRoom}
use Rattle.dcr_graph.specs.declared.marking.Marking.{Marking}
use Rattle.dcr_nest.specs.Nest.{parents_of}
use Rattle.dcr_nest.specs.Tree.{atoms}
use Rattle.dcr_json.specs.Case.{case_in}
use Rattle.dcr_json.specs.Refusals.{SpellsJson}
use Rattle.dcr_json.specs.Written.{Spelled, written_in}

-- Where these are the objects of the events, and the numbers of those that are atoms: atom a is executed and pending where
-- its object's member of that name is true, and included unless it is false.
pub record OpensAs (events : List Data) (atoms : List ℕ) (opening : Marking) : Type 0 where
  pub room : HasRoom (length atoms) opening
  pub executed : (a x : ℕ) (event : Data) → slice_get atoms a ≡ Some x → slice_get events x ≡ Some event → (has opening.executed a ≡ true) ↔ (get (codes "executed") event ≡ Some (boolean true))
  pub pending : (a x : ℕ) (event : Data) → slice_get atoms a ≡ Some x → slice_get events x ≡ Some event → (has opening.pending a ≡ true) ↔ (get (codes "pending") event ≡ Some (boolean true))
  pub included : (a x : ℕ) (event : Data) → slice_get atoms a ≡ Some x → slice_get events x ≡ Some event → (has opening.included a ≡ true) ↔ (get (codes "included") event ≢ Some (boolean false))

-- the objects of a file's events are as many as the nodes, and the case opens as they say
pub record OpensAsWritten (d : Data) (case : Spelled) : Type 0 where
  pub as_many : length (written_in d).graph.events ≡ length case.nested.nodes
  pub opens : OpensAs (written_in d).graph.events (atoms (parents_of case.nested.nodes)) case.opening

abbrev pub OpeningIsWritten : Type 0
OpeningIsWritten = (bytes : List ℕ) (d : Data) (case : Spelled) → SpellsJson bytes d → case_in bytes ≡ Ok case → OpensAsWritten d case
