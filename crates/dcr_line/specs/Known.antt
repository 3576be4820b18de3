-- The names of sites or atoms that lines can be read by.
use Rattle.std.specs.Prelude.{◌≡◌, ℕ, true, List}
use Rattle.std.specs.List.{All}
use Rattle.dcr_graph.specs.Names.{is_name, AreDistinct}

-- each text is a name, and no two are one
pub record AreNames (texts : List (List ℕ)) : Type 0 where
  pub names : All (λ text. is_name text ≡ true) texts
  pub distinct : AreDistinct texts
