-- What a report of a legal history is.
use Rattle.std.specs.Prelude.{◌≡◌, ℕ, List, length}
use Rattle.dcr_journal.specs.declared.call.Entry.{Entry}
use Rattle.dcr_report.specs.Report.{report_text}
use Rattle.dcr_replay.specs.EntryLines.{IsRun, Setting}

-- the text is the report of a legal history with so many entries, at most 200,000, of sessions below 1,024
pub record IsReport (bytes : List ℕ) (count : ℕ) : Type 0 where
  pub setting : Setting
  pub history : List Entry
  pub run : IsRun setting history
  pub text : bytes ≡ report_text setting.nest setting.cover setting.opening history
  pub counted : count ≡ length history
