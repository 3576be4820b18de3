-- What a door tells, and what it gives.
use Rattle.std.specs.Prelude.{◌≡◌, ℕ, List, [], ◌∷◌, Option, Some, None, Result, Ok, Err, ⊤}
use Rattle.dcr_base.specs.Link.{IsUnfailed, Links}
use Rattle.dcr_base.specs.declared.failed.Failed.{Failed}

pub record Doors (B L R : Type 0) : Type 1 where
  -- the links that are left, in order, where the door tells them
  pub links : B → Option (List L)
  -- it is shut, whether it tells its links or not
  pub is_shut : B → Type 0
  -- how many times it has failed
  pub faults : B → ℕ
  -- what its links tell
  pub each : Links L R

-- Of the links that were left, where they are told, the first one is given, and the others stay. None is given exactly where
-- none is left, and a failure takes none.
abbrev pub GivesNext : {L : Type 0} → Option (List L) → Option (List L) → Result (Option L) Failed → Type 0
GivesNext None after answer = after ≡ None
GivesNext (Some before) after (Ok (Some link)) = (rest : List _) × (before ≡ link ∷ rest) × (after ≡ Some rest)
GivesNext (Some before) after (Ok None) = (before ≡ []) × (after ≡ Some [])
GivesNext (Some before) after (Err failed) = after ≡ Some before

-- no link is left, where they are told
abbrev pub HasNoneLeft : {L : Type 0} → Option (List L) → Type 0
HasNoneLeft None = ⊤
HasNoneLeft (Some left) = left ≡ []

-- a link that is given has counted no fault
abbrev pub IsFresh : {L R : Type 0} → Links L R → Result (Option L) Failed → Type 0
IsFresh links (Ok (Some link)) = IsUnfailed links link
IsFresh links (Ok None) = ⊤
IsFresh links (Err failed) = ⊤
