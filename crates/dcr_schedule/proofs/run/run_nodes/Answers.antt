use Rattle.std.proofs.Common.{arith, length, refl}
use Rattle.std.proofs.lemmas.Option.{slice_get_read}
use Rattle.dcr_journal.specs.Run.{numbered}
use Rattle.dcr_schedule.specs.Executions.{exec_calls}
use Rattle.dcr_schedule.proofs.PlayingLemmas.{tells_session, whole_told}
use Rattle.dcr_schedule.proofs.run.run_nodes.Goals as goal

pub loop-session-preserved : goal.loop-session-preserved
loop-session-preserved c =
    tells_session (numbered 0 (exec_calls c.args.sessions.now)) c.args.sessions.now c.loop-session.session c.index-sessions-session.result c.args.world.now c.loop-session.world c.run_session.new.world
    (slice_get_read c.args.sessions.now (length c.args.sessions.now) c.loop-session.session c.index-sessions-session.result refl (let more = c.loop-session-test.true in omega (arith, more)) c.index-sessions-session.is)
    c.loop-session.invariant c.run_session.ensures.kept c.run_session.ensures.right c.in_ok-run_session.ensures.told

pub returns-clause-told : goal.returns-clause-told
returns-clause-told c =
    whole_told c.args.sessions.now c.loop-session.session c.hear_all.result c.args.world.now c.loop-session.world c.hear_all.new.world
    (let past = c.loop-session-test.false in omega (arith, past)) c.loop-session.invariant c.requires.entries c.requires.nothing_out c.requires.room c.hear_all.ensures.journal
