-- A text on its way to a sink: what a writer makes of it.
use Rattle.std.specs.Prelude.{◌≡◌, ℕ, ◌<◌, List, ◌++◌, length, Result, Ok, Err}
use Rattle.std.specs.Io.KnownBytes.{Appends}
use Rattle.dcr_base.specs.Count.{Fails}
use Rattle.dcr_base.specs.Side.{Side}
use Rattle.dcr_report.specs.declared.report.ReportStop.{ReportStop}
use Rattle.dcr_report.specs.declared.report.ReportStop.TheVariants.{WriteFault, NoMemory}
use Rattle.dcr_report.specs.declared.writer.Writer.{Writer}

-- a fault was counted exactly where a write failed
abbrev pub CountsStop : ReportStop → ℕ → ℕ → Type 0
CountsStop WriteFault old new = Fails old new
CountsStop NoMemory old new = new ≡ old

-- What is left of a text that was put: it is held, and no write failed; where the writer stopped, something is left.
abbrev pub IsLeft : {T : Type 0} → Result T ReportStop → List ℕ → List ℕ → ℕ → ℕ → Type 0
IsLeft (Ok done) left held old new = (left ≡ held) × (new ≡ old)
IsLeft (Err stop) left held old new = (0 < length left) × CountsStop stop old new

-- What was put into a writer so far is what its sink took since and then what it holds. A call that puts this text has the
-- sink take the front of what was held and then the text.
pub record Puts {T O : Type 0} (takes : O → Side) (result : Result T ReportStop) (text : List ℕ) (before after : Writer O) : Type 0 where
  pub same_sink : after.sink.ghost_name ≡ before.sink.ghost_name
  pub moved : List ℕ
  pub left : List ℕ
  pub took : Appends (takes before.sink.now).bytes (takes after.sink.now).bytes moved
  pub joined : moved ++ left ≡ before.held.items ++ text
  pub is_left : IsLeft result left after.held.items (takes before.sink.now).faults (takes after.sink.now).faults
