-- A `MemPorter` as contracts see it.
use Rattle.std.specs.Prelude.{◌≡◌, ℕ, Bool, List, [], ◌∷◌, Option, Some, None, filter_map, if◌then◌else◌}
use Rattle.std.specs.List.{All}
use Rattle.std.specs.Option.{IfSome}
use Rattle.std.proofs.Common.{ap}
use Rattle.dcr_porter.specs.Porter.{Porters}
use Rattle.dcr_porter.specs.declared.brought.Brought.{Brought}
use Rattle.dcr_porter.specs.declared.brought.Brought.TheVariants.{Link, Nobody, Shut}
use Rattle.dcr_fakes.specs.CallLog.{CallLog}
use Rattle.dcr_fakes.specs.LinkState.{LinkState, IsFresh, mem_links}

pub record PorterState : Type 0 where
  -- what comes at the turns that are left: a link or nobody
  pub turns : List (Option LinkState)
  -- what was handed back and kept, by number
  pub back : List (ℕ × LinkState)
  -- for how many there is memory
  pub room : ℕ
  -- that is all that was handed back
  pub is_whole : Bool
  pub calls : CallLog

-- the links of these turns
abbrev pub links_in : List (Option LinkState) → List LinkState
links_in turns = filter_map (λ (turn : Option LinkState). turn) turns

-- no link of these turns has counted a fault
abbrev pub AreFresh : List (Option LinkState) → Type 0
AreFresh turns = All (λ (turn : Option LinkState). IfSome turn IsFresh) turns

-- what was handed back, where all of it was kept
abbrev pub told_back : PorterState → Option (List (ℕ × LinkState))
told_back porter = if porter.is_whole then Some porter.back else None

abbrev pub mem_porters : Porters PorterState LinkState LinkState
mem_porters = record {
  links = λ porter. Some (links_in porter.turns);
  is_shut = λ porter. porter.turns ≡ [];
  faults = λ porter. porter.calls.faults;
  back = told_back;
  each = mem_links;
}

-- where no turn is left no link is
pub shut_brings_none : (porter : PorterState) → porter.turns ≡ [] → links_in porter.turns ≡ []
shut_brings_none porter shut = ap links_in shut

-- of these turns the first one brought this, and the others stay; it is shut where there is none
abbrev pub BringsTurn : List (Option LinkState) → Brought LinkState → List (Option LinkState) → Type 0
BringsTurn before (Link link) after = before ≡ Some link ∷ after
BringsTurn before Nobody after = before ≡ None ∷ after
BringsTurn before Shut after = (before ≡ []) × (after ≡ [])
