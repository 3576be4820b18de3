-- A journal as contracts see it.
use Rattle.std.specs.Prelude.{ℕ, List}
use Rattle.dcr_journal.specs.declared.call.Entry.{Entry}

pub record History : Type 0 where
  pub entries : List Entry
  -- how many entries there may be
  pub capacity : ℕ
