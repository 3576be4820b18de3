-- What a part tells, and what it stands for.
use Rattle.std.specs.Prelude.{◌≡◌, ℕ, true, [], slice_index_or}
use Rattle.dcr_set.specs.EventSet.{Set, has}
use Rattle.dcr_graph.specs.Projection.{local_rules, project}
use Rattle.dcr_graph.specs.Rules.{Rules}
use Rattle.dcr_proj.specs.Local.{projection_of}
use Rattle.dcr_part.specs.Whole.{Whole, alphabet_of, part_text}

-- the local rules are projected as the rules that they come from
abbrev pub LocalRulesAreEnough : Type 0
LocalRulesAreEnough = (G : Rules) (S : Set) → projection_of (local_rules G S) S ≡ projection_of G S

-- two cases are alike at a site: the digest, the site's number and its name are the same, its projection, the names on its
-- alphabet, and the opening marks that it tracks
pub record AreAlike (V W : Whole) : Type 0 where
  pub head : V.head ≡ W.head
  pub projection : projection_of V.rules V.own ≡ projection_of W.rules W.own
  pub names : (e : ℕ) → has (alphabet_of V) e ≡ true → slice_index_or V.names e [] ≡ slice_index_or W.names e []
  pub marks : project V.rules V.own V.opening ≡ project W.rules W.own W.opening

-- cases that are alike at a site have one part there
abbrev pub PartsTellNoMore : Type 0
PartsTellNoMore = (V W : Whole) → AreAlike V W → part_text V ≡ part_text W
