use Rattle.std.proofs.Common.{refl}
use Rattle.dcr_app.specs.Outside.{wrote_all, write_failed, write_starved}
use Rattle.dcr_app.proofs.report.report.Goals as goal

pub returns-in-Ok : goal.returns-in-Ok
returns-in-Ok g c = wrote_all refl c.in-Ok.ensures.all

pub returns-in-Err-WriteFault : goal.returns-in-Err-WriteFault
returns-in-Err-WriteFault g c = write_failed refl c.in-Err-WriteFault.ensures.not_all (rw c.in-Err-WriteFault.field-0-is at c.in-Err-WriteFault.ensures.counts)

pub returns-in-Err-NoMemory : goal.returns-in-Err-NoMemory
returns-in-Err-NoMemory g c = write_starved refl c.in-Err-NoMemory.ensures.not_all (rw c.in-Err-NoMemory.field-0-is at c.in-Err-NoMemory.ensures.counts)
