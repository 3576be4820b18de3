use Rattle.std.proofs.Common.{sym, subst}
use Rattle.dcr_journal.specs.Run.{stepped_by}
use Rattle.dcr_journal.specs.declared.call.Call.TheVariants.{Exec}
use Rattle.dcr_site.specs.Together.{AllStand}
use Rattle.dcr_run.proofs.sites.Sites.exec.Goals as goal

pub returns-in-Done-clause-stepped : goal.returns-in-Done-clause-stepped
returns-in-Done-clause-stepped c = λ G C M stand.
    subst (λ o. AllStand G C (stepped_by G M (Exec c.args.site c.args.e) o) c.apply.new.self.sites) (sym c.in-Done.is) (c.apply.ensures.stepped G C M stand)
