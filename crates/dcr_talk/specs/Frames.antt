-- Bytes that are messages, questions and answers, one behind the other.
use Rattle.std.specs.Prelude.{◌≡◌, ℕ, ◌<◌, List, [], ◌∷◌, ◌++◌, length, slice_index, Some}
use Rattle.dcr_wire.specs.Laws.{Sent, SpellSent, length_told}

-- the bytes are those of these, one behind the other
abbrev pub SpellAll : List ℕ → List Sent → Type 0
SpellAll bytes [] = bytes ≡ []
SpellAll bytes (one ∷ more) = (first rest : List ℕ) × (bytes ≡ first ++ rest) × SpellSent first one × SpellAll rest more

-- no whole one stands at the beginning of the bytes: the first byte tells of more than there are, or of nothing
abbrev pub HasNoFrame : List ℕ → Type 0
HasNoFrame bytes = (n : ℕ) → length_told (slice_index bytes 0) ≡ Some n → length bytes < n

-- the bytes are those of these, and then what is behind
pub record Frames (bytes : List ℕ) (messages : List Sent) (behind : List ℕ) : Type 0 where
  pub whole : List ℕ
  pub spelled : SpellAll whole messages
  pub same : bytes ≡ whole ++ behind
