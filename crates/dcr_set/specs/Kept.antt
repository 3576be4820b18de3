-- Sets that are kept in a row of words, each in as many words as its room needs.
use Rattle.std.specs.Prelude.{ℕ, ◌+◌, ◌*◌, ◌/◌, List}
use Rattle.dcr_set.specs.Bits.{bit}
use Rattle.dcr_set.specs.EventSet.{Set, those}

-- how many words a set with this room takes
abbrev pub words_needed : ℕ → ℕ
words_needed room = (room + 63) / 64

-- the set with this room whose bits stand in the row from this word on
unfoldable pub set_at : List ℕ → ℕ → ℕ → Set
set_at row place room = those room (λ k. bit row (64 * place + k))
