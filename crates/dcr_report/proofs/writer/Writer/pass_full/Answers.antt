use Rattle.std.proofs.Common.{refl}
use Rattle.dcr_report.proofs.Passing.{Puts-none}
use Rattle.dcr_report.proofs.writer.Writer.pass_full.Goals as goal

pub returns-then-len-le-FULL : goal.returns-then-len-le-FULL
returns-then-len-le-FULL g c = Puts-none g.O.Sink.takes c.args.self.now refl
