-- Links that say what the machines of their sites could say.
use Rattle.std.specs.Prelude.{◌≡◌, ℕ, List, ◌++◌, Option, Some, slice_get}
use Rattle.std.specs.List.{All}
use Rattle.dcr_base.specs.Link.{Links}
use Rattle.dcr_set.specs.EventSet.{Set}
use Rattle.dcr_graph.specs.Rules.{Rules}
use Rattle.dcr_graph.specs.declared.marking.Marking.{Marking}
use Rattle.dcr_talk.specs.Talk.{CouldSay}

-- The link of this number and what stays of it tell what it gave and took in all. Where it greeted as a site, what it gave
-- behind the greeting is what the site's machine could say to what it took behind it. `greets` says of a number, of bytes
-- that a link took first and of bytes that it gave first that they are a greeting of the site of this number.
pub record Speaks {L R : Type 0} (tells : Links L R) (links : Option (List L)) (greets : ℕ → List ℕ → List ℕ → Type 0) (G : Rules) (C : List Set) (M : Marking) (number : ℕ) (rest : R) : Type 0 where
  pub link : L
  pub numbered : (all : List L) × (links ≡ Some all) × (slice_get all number ≡ Some link)
  pub gave : List ℕ
  pub took : List ℕ
  pub read : (left : List ℕ) × ((tells.gives link).bytes ≡ Some (gave ++ left)) × ((tells.unread rest).bytes ≡ Some left)
  pub wrote : (had : List ℕ) × ((tells.takes link).bytes ≡ Some had) × ((tells.sent rest).bytes ≡ Some (had ++ took))
  pub could : (i : ℕ) (challenge taken hello given : List ℕ) → took ≡ challenge ++ taken → gave ≡ hello ++ given
      → greets i challenge hello → CouldSay G C M i given taken

-- and so of each that was handed back
abbrev pub AllSpeak : {L R : Type 0} → Links L R → Option (List L) → (ℕ → List ℕ → List ℕ → Type 0) → Rules → List Set → Marking → List (ℕ × R) → Type 0
AllSpeak tells links greets G C M back = All (λ (one : ℕ × _). Speaks tells links greets G C M one.0 one.1) back
