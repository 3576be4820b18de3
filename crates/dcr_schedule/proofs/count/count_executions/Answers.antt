use Rattle.std.proofs.Common.{arith, length, refl}
use Rattle.std.proofs.lemmas.Option.{slice_get_read}
use Rattle.dcr_schedule.proofs.PlayingLemmas.{few_executions, first_fits}
use Rattle.dcr_schedule.proofs.count.count_executions.Goals as goal

pub overflow_add-count : goal.overflow_add-count
overflow_add-count c =
    let sessions = c.args.sessions.now in let k = c.loop-session.session in
    let here = slice_get_read sessions (length sessions) k c.index-sessions-session.result refl (let more = c.loop-session-test.true in omega (arith, more)) c.index-sessions-session.is in
    let fits = first_fits sessions k c.index-sessions-session.result here in
    let few = few_executions 0 sessions in let most = c.requires in let whole = c.loop-session.invariant.1 in let mine = c.count_of-count.ensures in omega (arith, fits, few, most, whole, mine)

pub returns-clause-few : goal.returns-clause-few
returns-clause-few c =
    let few = few_executions 0 c.args.sessions.now in let most = c.requires in let whole = c.loop-session.invariant.1 in omega (arith, few, most, whole)
