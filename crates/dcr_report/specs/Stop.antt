-- What is shown of a `ReportStop`.
use Rattle.std.specs.Prelude.{ℕ, List, codes}
use Rattle.dcr_report.specs.declared.report.ReportStop.{ReportStop}
use Rattle.dcr_report.specs.declared.report.ReportStop.TheVariants.{WriteFault, NoMemory}

abbrev pub message_of : ReportStop → List ℕ
message_of WriteFault = codes "the output failed"
message_of NoMemory = codes "out of memory"
