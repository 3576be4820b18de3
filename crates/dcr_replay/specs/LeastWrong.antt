-- How a text begins as reports do, and which of its lines is the first wrong one.
use Rattle.std.specs.Prelude.{◌≡◌, ℕ, ◌+◌, ◌<◌, ◌≤◌, List, length, take}
use Rattle.dcr_text.specs.Lines.{lines_of}
use Rattle.dcr_replay.specs.Laws.{IsReport}

-- the first lines of the text, so many, are the first lines of the report of a legal history
pub record BeginsReport (bytes : List ℕ) (lines : ℕ) : Type 0 where
  pub report : List ℕ
  pub count : ℕ
  pub is_report : IsReport report count
  pub same : take lines (lines_of report) ≡ take lines (lines_of bytes)

-- The line of this number, counted from 1, is the first wrong one: the lines before it begin a report, and with it they
-- begin none. So the number is the least such that no report begins with so many lines of the text. A line that is
-- missing is the one behind the last.
pub record IsLeastWrong (bytes : List ℕ) (line : ℕ) : Type 0 where
  pub positive : 1 ≤ line
  pub before : (lines : ℕ) → lines < line → BeginsReport bytes lines
  pub here : BeginsReport bytes line → ⊥
  pub reached : line ≤ length (lines_of bytes) + 1
