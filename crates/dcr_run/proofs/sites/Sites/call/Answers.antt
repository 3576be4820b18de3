use Rattle.std.proofs.Common.{sym, subst}
use Rattle.dcr_journal.specs.Run.{stepped_by}
use Rattle.dcr_site.specs.Together.{AllStand}
use Rattle.dcr_run.proofs.sites.Sites.call.Goals as goal

pub returns-in-Exec-clause-stepped : goal.returns-in-Exec-clause-stepped
returns-in-Exec-clause-stepped c = λ G C M stand.
    subst (λ call. AllStand G C (stepped_by G M call c.exec.result) c.exec.new.self.sites) (sym c.in-Exec.is) (c.exec.ensures.stepped G C M stand)
