-- Covers: the room of each set.
use Rattle.std.proofs.Common.{◌≡◌, ℕ, ◌<◌, List, [], length, get_or}
use Rattle.std.proofs.lemmas.List.Elements.{All-get_or}
use Rattle.dcr_set.specs.EventSet.{Set}
use Rattle.dcr_proj.specs.CoverValue.{atoms_of, HaveOneRoom}

-- each of the sets has a place for each atom
pub room_of_each : (sets : List Set) (i : ℕ) → HaveOneRoom sets → i < length sets → length (get_or sets i []) ≡ atoms_of sets
room_of_each sets i rooms within = All-get_or (λ set. length set ≡ atoms_of sets) sets i [] within rooms
