-- A network as contracts see it, the alphabets of its sites in order, and which sites must hear of an event.
use Rattle.std.specs.Prelude.{ℕ, ◌≤◌, List, [], length, map, slice_index_or}
use Rattle.std.specs.List.{range_with_len}
use Rattle.dcr_set.specs.EventSet.{Set, has, those, numbers}
use Rattle.dcr_proj.specs.CoverValue.{atoms_of, HaveOneRoom}

-- 1 to 64 sites, whose alphabets are sets of the same atoms
pub record IsNetwork (alphabets : List Set) : Type 0 where
  pub some_site : 1 ≤ length alphabets
  pub most_sites : length alphabets ≤ 64
  pub rooms : HaveOneRoom alphabets

-- the sites whose alphabet has the event, ascending
abbrev pub participants_of : List Set → ℕ → List ℕ
participants_of alphabets e = numbers (those (length alphabets) (λ i. has (slice_index_or alphabets i []) e))

-- the participants of each event
abbrev pub lists_of : List Set → List (List ℕ)
lists_of alphabets = map (participants_of alphabets) (range_with_len 0 (atoms_of alphabets))
