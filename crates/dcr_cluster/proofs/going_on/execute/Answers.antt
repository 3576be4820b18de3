use Rattle.std.proofs.Common.{subst}
use Rattle.dcr_journal.specs.Run.{stepped_by}
use Rattle.dcr_journal.specs.declared.call.Call.TheVariants.{Exec}
use Rattle.dcr_journal.specs.declared.call.Outcome.{Outcome}
use Rattle.dcr_site.specs.Together.{AllStand}
use Rattle.dcr_cluster.proofs.going_on.execute.Goals as goal

pub returns-in-Done-clause-stepped : goal.returns-in-Done-clause-stepped
returns-in-Done-clause-stepped c = λ G C M stand yes.
    subst (λ (o : Outcome). AllStand G C (stepped_by G M (Exec c.args.x.now.site c.args.x.now.event) o) c.call-outcome.new.self.sites) c.in-Done.is (c.call-outcome.ensures.stepped G C M stand)
