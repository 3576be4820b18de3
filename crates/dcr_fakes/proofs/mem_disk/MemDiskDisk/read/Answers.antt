-- Whether or not the call is kept in the list, the content and the images stay.
use Rattle.std.proofs.Common.{length}
use Rattle.dcr_fakes.specs.declared.disk_call.DiskCall.TheVariants.{Read}
use Rattle.dcr_fakes.proofs.ImageLemmas.{kept_holds, kept_stays}
use Rattle.dcr_fakes.proofs.mem_disk.MemDiskDisk.read.Goals as goal

pub invariant_of-self-then-failed : goal.invariant_of-self-then-failed
invariant_of-self-then-failed c = record { holds = kept_holds c.args.self.now.first.items c.args.self.now.changed c.args.self.now.done.items c.keep.new.done.items (Read c.args.at (length c.args.buf.now) c.count-failed.result) tt c.keep.result c.keep.ensures c.args.self.now.holds }

pub returns-then-failed-clause-stays : goal.returns-then-failed-clause-stays
returns-then-failed-clause-stays c = kept_stays c.args.self.now.first.items c.args.self.now.changed c.args.self.now.done.items c.keep.new.done.items (Read c.args.at (length c.args.buf.now) c.count-failed.result) tt c.keep.result c.keep.ensures

pub invariant_of-self-else-failed : goal.invariant_of-self-else-failed
invariant_of-self-else-failed c = record { holds = kept_holds c.args.self.now.first.items c.args.self.now.changed c.args.self.now.done.items c.keep.new.done.items (Read c.args.at (length c.args.buf.now) c.count-failed.result) tt c.keep.result c.keep.ensures c.args.self.now.holds }

pub returns-clause-stays : goal.returns-clause-stays
returns-clause-stays c = kept_stays c.args.self.now.first.items c.args.self.now.changed c.args.self.now.done.items c.keep.new.done.items (Read c.args.at (length c.args.buf.now) c.count-failed.result) tt c.keep.result c.keep.ensures
