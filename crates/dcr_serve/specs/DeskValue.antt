-- What lies under a desk's lock, as contracts see it.
use Rattle.std.specs.Prelude.{◌≡◌, ◌≢◌, ◌⊎◌, ℕ, List, [], Option, Some, None, Result, Ok, Err}
use Rattle.dcr_base.specs.declared.failed.Failed.{Failed}
use Rattle.dcr_serve.specs.declared.stand.DoorStand.{DoorStand}
use Rattle.dcr_serve.specs.declared.stand.DoorStand.TheVariants.{Open, Shut}
use Rattle.dcr_serve.specs.declared.stand.DoorStand.TheVariants.{Failed as HasFailed}

pub record DeskValue (B P : Type 0) : Type 0 where
  pub door : B
  -- those that are left, in order
  pub items : List P
  -- how many items were taken
  pub taken : ℕ
  pub stand : DoorStand

-- nothing is handed out any more: no item is left, or the door is not open
abbrev pub IsOver : {B P : Type 0} → DeskValue B P → Type 0
IsOver desk = (desk.items ≡ []) ⊎ (desk.stand ≢ Open)

-- The door was asked once, and what a take gave, with how the door stands since, is what it answered.
abbrev pub IsAnswered : {B P L : Type 0} → (B → Result (Option L) Failed → B → Type 0)
    → B → Option (P × L) → DoorStand → B → Type 0
IsAnswered answered before (Some given) stand after = answered before (Ok (Some given.1)) after
IsAnswered answered before None Open after = ⊥
IsAnswered answered before None Shut after = answered before (Ok None) after
IsAnswered answered before None HasFailed after = (failed : Failed) × answered before (Err failed) after
