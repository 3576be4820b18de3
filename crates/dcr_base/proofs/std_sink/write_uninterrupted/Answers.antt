use Rattle.std.proofs.Common.{rules}
use Rattle.std.proofs.KnownBytes.{Keeps-refl, Keeps-trans}
use Rattle.dcr_base.proofs.Interruptions.{not_asked, once_more}
use Rattle.dcr_base.proofs.std_sink.write_uninterrupted.Goals as goal

pub loop-times-init : goal.loop-times-init
loop-times-init g c = record { kept = Keeps-refl _; interrupted = not_asked _ _ }

pub loop-times-preserved : goal.loop-times-preserved
loop-times-preserved g c =
    let before = c.loop-times.invariant in
    let asked = c.in-Err.ensures in
    record {
      kept = Keeps-trans _ _ _ before.kept asked.appended;
      interrupted = once_more _ _ _ _ _ _ before.interrupted asked.asked (search rules);
    }
