-- The write that is kept in the list is what becomes of the content.
use Rattle.std.proofs.Common.{rules, ◌≡◌, ◌++◌, [], ◌∷◌, ◌∙◌, Bool, not, true, ap}
use Rattle.dcr_fakes.specs.DiskLog.{current}
use Rattle.dcr_fakes.specs.declared.disk_call.DiskCall.TheVariants.{Write}
use Rattle.dcr_fakes.proofs.ImageLemmas.{write_holds, write_writes}
use Rattle.dcr_fakes.proofs.mem_disk.MemDiskDisk.write_at.Goals as goal

pub invariant_of-self-then-failed : goal.invariant_of-self-then-failed
invariant_of-self-then-failed c =
    let same : c.in-Ok.piece.items ≡ c.args.bytes.now = search rules in
    let pushed : c.push_reserved.new.self.items ≡ c.args.self.now.done.items ++ Write c.args.at c.in-Ok.piece (not c.write_now-failed.result) ∷ [] = search rules in
    let old = current c.args.self.now.first.items c.args.self.now.changed in
    let new = current c.args.self.now.first.items c.write_now-failed.new.changed in
    record { holds = write_holds c.args.self.now.first.items c.args.self.now.done.items c.push_reserved.new.self.items c.args.at c.in-Ok.piece c.args.bytes.now same c.write_now-failed.result pushed old new c.args.self.now.holds (search rules) (search rules) }

pub returns-then-failed-clause-writes : goal.returns-then-failed-clause-writes
returns-then-failed-clause-writes c =
    let same : c.in-Ok.piece.items ≡ c.args.bytes.now = search rules in
    let pushed : c.push_reserved.new.self.items ≡ c.args.self.now.done.items ++ Write c.args.at c.in-Ok.piece (not c.write_now-failed.result) ∷ [] = search rules in
    write_writes c.args.self.now.first.items c.args.self.now.done.items c.push_reserved.new.self.items c.args.at c.in-Ok.piece c.args.bytes.now same c.write_now-failed.result pushed

pub invariant_of-self-else-failed : goal.invariant_of-self-else-failed
invariant_of-self-else-failed c =
    let same : c.in-Ok.piece.items ≡ c.args.bytes.now = search rules in
    let pushed : c.push_reserved.new.self.items ≡ c.args.self.now.done.items ++ Write c.args.at c.in-Ok.piece (not c.write_now-failed.result) ∷ [] = search rules in
    let old = current c.args.self.now.first.items c.args.self.now.changed in
    let new = current c.args.self.now.first.items c.write_now-failed.new.changed in
    record { holds = write_holds c.args.self.now.first.items c.args.self.now.done.items c.push_reserved.new.self.items c.args.at c.in-Ok.piece c.args.bytes.now same c.write_now-failed.result pushed old new c.args.self.now.holds (search rules) (search rules) }

pub returns-clause-writes : goal.returns-clause-writes
returns-clause-writes c =
    let same : c.in-Ok.piece.items ≡ c.args.bytes.now = search rules in
    let pushed : c.push_reserved.new.self.items ≡ c.args.self.now.done.items ++ Write c.args.at c.in-Ok.piece (not c.write_now-failed.result) ∷ [] = search rules in
    write_writes c.args.self.now.first.items c.args.self.now.done.items c.push_reserved.new.self.items c.args.at c.in-Ok.piece c.args.bytes.now same c.write_now-failed.result pushed

pub returns-clause-listed : goal.returns-clause-listed
returns-clause-listed c =
    let same : c.in-Ok.piece.items ≡ c.args.bytes.now = search rules in
    let pushed : c.push_reserved.new.self.items ≡ c.args.self.now.done.items ++ Write c.args.at c.in-Ok.piece (not c.write_now-failed.result) ∷ [] = search rules in
    let written : c.write_now-failed.result ≡ true = search rules in
    record {
      piece = c.in-Ok.piece;
      has = same;
      listed = pushed ∙ ap (λ (b : Bool). c.args.self.now.done.items ++ Write c.args.at c.in-Ok.piece (not b) ∷ []) written;
    }
