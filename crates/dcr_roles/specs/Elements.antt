-- Words for the arrays of a case file, and for arrays of texts.
use Rattle.std.specs.Prelude.{ℕ, codes, List, [], ◌∷◌, Option, Some, option_and_then, unwrap_or}
use Rattle.serde_json.specs.Data.{Data}
use Rattle.serde_json.specs.Find.{get, as_str}
use Rattle.dcr_format.specs.Members.{elements}

infixl 10 ◌>>=◌
-- the next step, where this one gave something
abbrev pub ◌>>=◌ : {A B : Type 0} → Option A → (A → Option B) → Option B
o >>= f = option_and_then f o

-- each of a list read, and none where one can't be
abbrev pub each : {A B : Type 0} → (A → Option B) → List A → Option (List B)
each read [] = Some []
each read (x ∷ xs) = read x >>= λ y. each read xs >>= λ ys. Some (y ∷ ys)

-- the texts of an array of texts
unfoldable pub texts_in : Data → Option (List (List ℕ))
texts_in d = do
  values ← elements d
  each as_str values

-- the elements of a member, and none where it is no array
abbrev pub elements_at : List ℕ → Data → List Data
elements_at name d = unwrap_or (get name d >>= elements) []

-- the same of a member of `graph`
abbrev pub graph_elements : List ℕ → Data → List Data
graph_elements name d = unwrap_or (get (codes "graph") d >>= λ graph. get name graph >>= elements) []
