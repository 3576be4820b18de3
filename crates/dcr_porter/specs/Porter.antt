-- What a porter tells, and what it brings.
use Rattle.std.specs.Prelude.{◌≡◌, ℕ, List, [], ◌∷◌, ◌++◌, Option, Some, None, Result, Ok, Err, ⊤}
use Rattle.dcr_base.specs.Link.{IsUnfailed, Links}
use Rattle.dcr_base.specs.declared.failed.Failed.{Failed}
use Rattle.dcr_porter.specs.declared.brought.Brought.{Brought}
use Rattle.dcr_porter.specs.declared.brought.Brought.TheVariants.{Link, Nobody, Shut}

pub record Porters (B L R : Type 0) : Type 1 where
  -- the links that are left, in order, where the porter tells them
  pub links : B → Option (List L)
  -- it is shut, whether it tells its links or not
  pub is_shut : B → Type 0
  -- how many times it has failed
  pub faults : B → ℕ
  -- what it was handed back, in order, each with the number of its link, where the porter tells that
  pub back : B → Option (List (ℕ × R))
  -- what its links tell
  pub each : Links L R

-- no link came or was lost, nothing was handed back, and it stays shut where it was
pub record IsSame {B L R : Type 0} (tells : Porters B L R) (old new : B) : Type 0 where
  pub links : tells.links new ≡ tells.links old
  pub stays_shut : tells.is_shut old → tells.is_shut new
  pub back : tells.back new ≡ tells.back old

-- Of the links that were left, where they are told, the first one is brought, and the others stay. It is shut only where none
-- is left, and nobody is there without one being lost; so too where it failed.
abbrev pub BringsNext : {L : Type 0} → Option (List L) → Option (List L) → Result (Brought L) Failed → Type 0
BringsNext None after answer = after ≡ None
BringsNext (Some before) after (Ok (Link link)) = (rest : List _) × (before ≡ link ∷ rest) × (after ≡ Some rest)
BringsNext (Some before) after (Ok Nobody) = after ≡ Some before
BringsNext (Some before) after (Ok Shut) = (before ≡ []) × (after ≡ Some [])
BringsNext (Some before) after (Err failed) = after ≡ Some before

-- a link that is brought has counted no fault
abbrev pub IsFresh : {L R : Type 0} → Links L R → Result (Brought L) Failed → Type 0
IsFresh links (Ok (Link link)) = IsUnfailed links link
IsFresh links (Ok Nobody) = ⊤
IsFresh links (Ok Shut) = ⊤
IsFresh links (Err failed) = ⊤

-- Where it is told what was handed back, this is behind it now; or it is told no more, where a porter has no memory for it.
abbrev pub HasBack : {R : Type 0} → Option (List (ℕ × R)) → ℕ → R → Option (List (ℕ × R)) → Type 0
HasBack before number rest None = ⊤
HasBack None number rest (Some after) = ⊥
HasBack (Some before) number rest (Some after) = after ≡ before ++ (number, rest) ∷ []
