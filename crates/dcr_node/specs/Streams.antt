-- The streams of all sites, and what an execution of which this was decided adds to them.
use Rattle.std.specs.Prelude.{◌≡◌, ℕ, ◌<◌, List, [], ◌∷◌, ◌++◌, length, replicate, slice_get, Some, if◌then◌else◌}
use Rattle.dcr_set.specs.EventSet.{Set, has}
use Rattle.dcr_graph.specs.Rows.{row}
use Rattle.dcr_site.specs.declared.site.Decision.{Decision}
use Rattle.dcr_site.specs.declared.site.Decision.TheVariants.{NotHere, Blocked, Enabled}
use Rattle.dcr_node.specs.StreamValue.{StreamValue}

-- so many empty streams with this room
abbrev pub new_streams : ℕ → ℕ → List StreamValue
new_streams sites room =
    let empty : StreamValue = record { events = []; room = room } in
    replicate sites empty

-- there is room for an event more in each stream
abbrev pub HaveRoom : List StreamValue → Type 0
HaveRoom streams = (i : ℕ) (stream : StreamValue) → slice_get streams i ≡ Some stream → length stream.events < stream.room

-- what the site with this alphabet is told: the event, where it was enabled and is of the alphabet
abbrev pub told_of : Set → ℕ → Decision → List ℕ
told_of alphabet e Enabled = if has alphabet e then e ∷ [] else []
told_of alphabet e NotHere = []
told_of alphabet e (Blocked why) = []

-- events came behind those of a stream
pub record IsLonger (more : List ℕ) (before after : StreamValue) : Type 0 where
  pub events : after.events ≡ before.events ++ more
  pub room : after.room ≡ before.room

-- each site was told
pub record AreTold (alphabets : List Set) (e : ℕ) (decision : Decision) (before after : List StreamValue) : Type 0 where
  pub as_many : length after ≡ length before
  pub each : (i : ℕ) (new : StreamValue) → slice_get after i ≡ Some new
      → (old : StreamValue) × (slice_get before i ≡ Some old) × IsLonger (told_of (row alphabets i) e decision) old new
