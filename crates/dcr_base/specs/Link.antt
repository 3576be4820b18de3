-- What a link tells while it is open, and what stays of it when it was ended.
use Rattle.std.specs.Prelude.{◌≡◌}
use Rattle.dcr_base.specs.Side.{Side}

pub record Links (L R : Type 0) : Type 0 where
  -- of the direction that is read: what is left
  pub gives : L → Side
  -- and of the one that is written: what was taken
  pub takes : L → Side
  -- what was left at the end
  pub unread : R → Side
  -- what had been taken
  pub sent : R → Side

-- an open link has counted no fault
abbrev pub IsUnfailed : {L R : Type 0} → Links L R → L → Type 0
IsUnfailed links link = ((links.gives link).faults ≡ 0) × ((links.takes link).faults ≡ 0)

abbrev pub links_of : {L R : Type 0} → (L → Side) → (L → Side) → (R → Side) → (R → Side) → Links L R
links_of gives takes unread sent = record { gives = gives; takes = takes; unread = unread; sent = sent }
