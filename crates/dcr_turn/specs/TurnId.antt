-- Which turn it is.
use Rattle.std.specs.Prelude.{ℕ, List, []}
use Rattle.atomic_table.specs.Seated.{TableId}
use Rattle.dcr_set.specs.EventSet.{Set}

pub record TurnId : Type 0 where
  -- what no other turn shares with it
  pub mark : TableId
  -- the alphabets of its sites, in order
  pub alphabets : List Set
  -- how many sessions it has
  pub sessions : ℕ

-- no turn
abbrev pub no_turn : TurnId
no_turn = record {
  mark = record { words = 0; slots = 0; views_name = 0; atom = 0; block = 0; offset = 0; slot_names = [] };
  alphabets = [];
  sessions = 0;
}
