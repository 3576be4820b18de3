use Rattle.std.proofs.Common.{Result, Ok, Err, OnOk}
use Rattle.dcr_base.proofs.FileLemmas.{writes_nothing, writes_torn, wrote_over}
use Rattle.dcr_base.proofs.file_disk.FileDisk.write_open.Goals as goal

-- two facts at `Ok` give a third
both : {T E : Type 0} (r : Result T E) (P Q R : Type 0) → OnOk r P → OnOk r Q → (P → Q → R) → OnOk r R
both (Ok x) P Q R p q give = give p q
both (Err e) P Q R p q give = tt

pub returns-in_err-open_now-clause-writes : goal.returns-in_err-open_now-clause-writes
returns-in_err-open_now-clause-writes g c =
    writes_nothing c.args.self.now.opened c.open_now.new.self.opened c.open_now.ensures.kept c.args.at c.args.bytes.now

pub returns-in-Some-clause-wrote : goal.returns-in-Some-clause-wrote
returns-in-Some-clause-wrote g c =
    both c.write_at.result _ _ _ c.write_at.ensures.within c.write_at.ensures.written
    (wrote_over c.args.self.now.opened c.open_now.new.self.opened c.open_now.ensures.kept c.in-Some.opened c.write_at.new.self c.in-Some.is c.args.at c.args.bytes.now)

pub returns-in-Some-clause-writes : goal.returns-in-Some-clause-writes
returns-in-Some-clause-writes g c =
    writes_torn c.args.self.now.opened c.open_now.new.self.opened c.open_now.ensures.kept c.in-Some.opened c.write_at.new.self c.in-Some.is
    c.args.at c.args.bytes.now c.write_at.ensures.torn
