use Rattle.std.proofs.Common.{ap, length, subst}
use Rattle.dcr_base.specs.Disk.{Wrote}
use Rattle.dcr_tape.proofs.RenewRun.{second_leaves, sync_leaves, wrote_twice}
use Rattle.dcr_tape.proofs.renew.write_part.Goals as goal

pub returns-in_err-write_at-2-clause-any_moment : goal.returns-in_err-write_at-2-clause-any_moment
returns-in_err-write_at-2-clause-any_moment g c = λ steady.
    second_leaves (g.D.Disk.view c.args.disk.now) (g.D.Disk.view c.write_at.new.self) c.args.start c.args.part.now steady c.write_at.ensures.writes
    (g.D.Disk.view c.write_at-2.new.self) c.to_be_bytes.result (ap length c.to_be_bytes.ensures) c.write_at-2.ensures.writes

pub returns-in_err-sync-clause-any_moment : goal.returns-in_err-sync-clause-any_moment
returns-in_err-sync-clause-any_moment g c = λ steady.
    sync_leaves (g.D.Disk.view c.args.disk.now) (g.D.Disk.view c.write_at.new.self) c.args.start c.args.part.now steady c.write_at.ensures.writes
    (g.D.Disk.view c.write_at-2.new.self) c.to_be_bytes.result (ap length c.to_be_bytes.ensures) c.write_at-2.ensures.writes (g.D.Disk.view c.sync.new.self) c.sync.ensures.stays

pub returns-clause-wrote : goal.returns-clause-wrote
returns-clause-wrote g c =
    wrote_twice (g.D.Disk.view c.args.disk.now) (g.D.Disk.view c.write_at.new.self) (g.D.Disk.view c.write_at-2.new.self) (g.D.Disk.view c.sync.new.self) c.args.start c.args.part.now c.in_ok-write_at.ensures.wrote
    (subst (λ pointer. Wrote 41 pointer (g.D.Disk.view c.write_at.new.self) (g.D.Disk.view c.write_at-2.new.self)) c.to_be_bytes.ensures c.in_ok-write_at-2.ensures.wrote) c.sync.ensures.stays

pub returns-clause-any_moment : goal.returns-clause-any_moment
returns-clause-any_moment g c = λ steady.
    sync_leaves (g.D.Disk.view c.args.disk.now) (g.D.Disk.view c.write_at.new.self) c.args.start c.args.part.now steady c.write_at.ensures.writes
    (g.D.Disk.view c.write_at-2.new.self) c.to_be_bytes.result (ap length c.to_be_bytes.ensures) c.write_at-2.ensures.writes (g.D.Disk.view c.sync.new.self) c.sync.ensures.stays
