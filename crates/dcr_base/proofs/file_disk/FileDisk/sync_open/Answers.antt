use Rattle.dcr_base.proofs.FileLemmas.{stays_open, stays_same}
use Rattle.dcr_base.proofs.file_disk.FileDisk.sync_open.Goals as goal

pub returns-in_err-open_now-clause-stays : goal.returns-in_err-open_now-clause-stays
returns-in_err-open_now-clause-stays g c = stays_open c.args.self.now.opened c.open_now.new.self.opened c.open_now.ensures.kept

pub returns-in-Some-clause-stays : goal.returns-in-Some-clause-stays
returns-in-Some-clause-stays g c =
    stays_same c.args.self.now.opened c.open_now.new.self.opened c.open_now.ensures.kept c.in-Some.opened c.sync.new.self c.in-Some.is c.sync.ensures
