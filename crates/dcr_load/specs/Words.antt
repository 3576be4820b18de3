-- The words that a number spells: those of the generator PCG32 (XSH RR) that begins with that number, on stream 54.
use Rattle.std.specs.Prelude.{ℕ, ◌%◌}
use Rattle.rand_pcg.specs.Lcg.{Lcg, advance, started, increment_of}
use Rattle.rand_pcg.specs.Pcg.{multiplier_64, pcg32}

abbrev pub generator : ℕ → Lcg
generator number = started 64 multiplier_64 number (increment_of 64 54)

-- the word that comes after so many others
unfoldable pub word : ℕ → ℕ → ℕ
word number place = (pcg32 (advance 64 multiplier_64 place (generator number))).0

-- what it picks among so many choices, numbered from 0
unfoldable pub picked : ℕ → ℕ → ℕ → ℕ
picked number place choices = word number place % choices
