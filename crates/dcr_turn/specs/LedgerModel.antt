-- What lies under the lock beside the kept value, and what its fields stand for.
use Rattle.std.specs.Prelude.{◌≡◌, ℕ}
use Rattle.dcr_turn.specs.Pushing.{ends_in_fault}
use Rattle.dcr_turn.specs.Records.{sites_in, all_know}
use Rattle.dcr_turn.specs.declared.ledger.Ledger.TheInside.{Inside}
use Rattle.dcr_turn.specs.LedgerValue.{LedgerValue}

abbrev pub ledger_of : {N : Type 0} → Inside N → LedgerValue
ledger_of d = record { entries = d.journal.entries; enlisted = sites_in d.records }

pub record IsLedger {N : Type 0} (most : ℕ) (d : Inside N) : Type 0 where
  pub records : d.records ≡ all_know d.journal.entries (sites_in d.records)
  pub capacity : d.journal.capacity ≡ most
  pub faulted : d.faulted ≡ ends_in_fault d.journal.entries
