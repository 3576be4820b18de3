use Rattle.std.proofs.Common.{replicate, refl}
use Rattle.dcr_tape.proofs.FindLemmas.{whole_read}
use Rattle.dcr_tape.proofs.find.read_head.Goals as goal

pub returns-clause-read : goal.returns-clause-read
returns-clause-read g c =
    let read = c.in_ok-read.ensures.read in
    whole_read (g.D.Disk.view c.args.disk.now).content (g.D.Disk.view c.read.new.self).content c.args.at c.in_ok-read.field-0 64 (replicate 64 0) c.read.new.buf
    ((c.in_ok-read.ensures.stays.told c.requires.told).1) refl c.requires.there read.1 read.2
