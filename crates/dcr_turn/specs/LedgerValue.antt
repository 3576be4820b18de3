-- The journal with the fronts that lie beside it.
use Rattle.std.specs.Prelude.{ℕ, List}
use Rattle.dcr_journal.specs.declared.call.Entry.{Entry}

pub record LedgerValue : Type 0 where
  pub entries : List Entry
  pub enlisted : List ℕ
