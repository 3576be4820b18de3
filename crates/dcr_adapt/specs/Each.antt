-- Each of a list, read one after another.
use Rattle.std.specs.Prelude.{ℕ, ◌+◌, List, [], ◌∷◌, Result, Ok}
use Rattle.dcr_roles.specs.Stages.{◌>>=◌}

-- each of a list with its index, counting from i; it stops at the first that is refused
abbrev pub each_from : {A B E : Type 0} → (ℕ → A → Result B E) → ℕ → List A → Result (List B) E
each_from read i [] = Ok []
each_from read i (x ∷ xs) = read i x >>= λ y. each_from read (i + 1) xs >>= λ ys. Ok (y ∷ ys)
