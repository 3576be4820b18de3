-- Sites of which each hears of its own event alone.
use Rattle.std.specs.Prelude.{◌≡◌, ℕ, true, List, [], slice_index_or}
use Rattle.dcr_set.specs.EventSet.{Set, has}

-- the alphabet of site i has event i at most
abbrev pub HaveOwnEvents : List Set → Type 0
HaveOwnEvents alphabets = (i event : ℕ) → has (slice_index_or alphabets i []) event ≡ true → event ≡ i
