use Rattle.std.proofs.Common.{rules, ◌≡◌, ◌≢◌, ◌<◌, List, [], Some, length, get_or, subst, arith}
use Rattle.std.proofs.lemmas.List.{get_or_read}
use Rattle.dcr_journal.specs.declared.call.Call.{Call}
use Rattle.dcr_roles.specs.Allowed.{denial, IsCallDenied}
use Rattle.dcr_roles.specs.declared.stop.PolicyStop.TheVariants.{NoMemory}
use Rattle.dcr_roles.proofs.AllowedLemmas.{denied_in, no_session_denied}
use Rattle.dcr_roles.proofs.allowed.try_sessions.Goals as goal

pub returns-in_err-try_calls : goal.returns-in_err-try_calls
returns-in_err-try_calls c =
    let P = c.args.policy.now in let sessions = c.args.sessions.now in let k = c.loop-k.k in let stop = c.in_err-try_calls.field-0.0 in
    let below : k < length sessions = omega arith in
    let same : c.index-sessions-k.result ≡ get_or sessions k [] = get_or_read sessions k c.index-sessions-k.result below c.index-sessions-k.is [] in
    let stopped : stop ≢ NoMemory → denial P sessions ≡ Some stop = λ want.
    denied_in P sessions k stop below (subst (λ (calls : List Call). IsCallDenied P k calls stop) same (c.in_err-try_calls.ensures want)) c.loop-k.invariant in
    search rules

pub returns : goal.returns
returns c = no_session_denied c.args.policy.now c.args.sessions.now (λ k below. c.loop-k.invariant k (omega (arith, below)))
