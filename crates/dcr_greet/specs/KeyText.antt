-- The texts in which keys are written: a site's own, and those of all sites, a line for each.
use Rattle.std.specs.Prelude.{◌≡◌, ◌≢◌, ℕ, ◌+◌, ◌<◌, ◌≤◌, List, [], ◌∷◌, ◌++◌, length, take, slice_index_or, Ok}
use Rattle.hex.specs.Hex.{decode_sized}

-- the text begins with 64 hex digits, which are this key, and a line end, and then goes on so
pub record BeginsWithKey (text key rest : List ℕ) : Type 0 where
  pub digits : List ℕ
  pub spelled : text ≡ digits ++ 10 ∷ rest
  pub decoded : decode_sized digits 32 ≡ Ok key

-- the text is a key's, and nothing more
abbrev pub IsKeyText : List ℕ → List ℕ → Type 0
IsKeyText text key = BeginsWithKey text key []

-- the text begins with the line of a site, which is its name, a blank and its key, and then goes on so
pub record BeginsWithLine (site text key rest : List ℕ) : Type 0 where
  pub behind : List ℕ
  pub named : text ≡ site ++ 32 ∷ behind
  pub keyed : BeginsWithKey behind key rest

-- the text begins with a line for each of these sites, in order, with these keys, and then goes on so
unfoldable pub BeginsWithLines : List (List ℕ) → List ℕ → List (List ℕ) → List ℕ → Type 0
BeginsWithLines [] text [] rest = text ≡ rest
BeginsWithLines [] text (key ∷ keys) rest = ⊥
BeginsWithLines (site ∷ sites) text [] rest = ⊥
BeginsWithLines (site ∷ sites) text (key ∷ keys) rest = (behind : List ℕ) × BeginsWithLine site text key behind × BeginsWithLines sites behind keys rest

-- the text is a line for each site, and nothing more
abbrev pub IsKeysText : List (List ℕ) → List ℕ → List (List ℕ) → Type 0
IsKeysText sites text keys = BeginsWithLines sites text keys []

-- The lines before this one, the first being 1, are those of the first sites, and this one isn't the next site's; or it is one
-- behind those of all sites.
pub record IsWrongLine (sites : List (List ℕ)) (text : List ℕ) (line : ℕ) : Type 0 where
  pub before : ℕ
  pub number : line ≡ before + 1
  pub within : before ≤ length sites
  pub keys : List (List ℕ)
  pub rest : List ℕ
  pub right : BeginsWithLines (take before sites) text keys rest
  pub wrong : before < length sites → (key behind : List ℕ) → BeginsWithLine (slice_index_or sites before []) rest key behind → ⊥
  pub more : before ≡ length sites → rest ≢ []
