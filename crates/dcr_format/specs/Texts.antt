-- Texts and names.
use Rattle.std.specs.Prelude.{◌≡◌, ◌≢◌, ℕ, true, List}
use Rattle.std.specs.List.{All}
use Rattle.dcr_graph.specs.Names.{is_name}

-- no byte of the text is a line end
abbrev pub IsOneLine : List ℕ → Type 0
IsOneLine text = All (λ byte. byte ≢ 10) text

-- each is a name
abbrev pub AreAllNames : List (List ℕ) → Type 0
AreAllNames names = All (λ name. is_name name ≡ true) names
