use Rattle.std.proofs.Common.{◌<◌, ℕ, List, length, map, ap, ◌∙◌, arith}
use Rattle.std.proofs.lemmas.List.{length-map, take_all}
use Rattle.std.proofs.lemmas.List.Sums.{sum_by_more, sum_by_more_le, sum_by-take-le}
use Rattle.serde_json.specs.Data.{Data, null}
use Rattle.serde_json.specs.View.{view}
use Rattle.dcr_format.proofs.ValueLemmas.{value_at}
use Rattle.dcr_session_json.specs.Limits.{call_count}
use Rattle.dcr_session_json.specs.Written.{calls_in}
use Rattle.dcr_session_json.proofs.CallLemmas.{all_calls}
use Rattle.dcr_session_json.proofs.arrays.count_calls.Goals as goal

abbrev count_in : Data → ℕ
count_in session = length (calls_in session)

pub overflow_add-count : goal.overflow_add-count
overflow_add-count c =
    let sessions = map view c.args.sessions.now in
    let i = c.loop-session.session-index in
    let here : i < length sessions = omega (arith, length-map c.args.sessions.now view, c.loop-session-test.true) in
    let same = ap count_in (value_at c.args.sessions.now i c.session-item.result c.loop-session-test.true c.session-item.is) in
    let many = ap (λ (ds : List Data). length ds) c.calls.ensures.calls in
    omega (arith, all_calls c.args.sessions.now, sum_by_more_le count_in sessions i null here, length-map c.calls.result.now view)

pub loop-session-preserved : goal.loop-session-preserved
loop-session-preserved c =
    let sessions = map view c.args.sessions.now in
    let i = c.loop-session.session-index in
    let here : i < length sessions = omega (arith, length-map c.args.sessions.now view, c.loop-session-test.true) in
    let same = ap count_in (value_at c.args.sessions.now i c.session-item.result c.loop-session-test.true c.session-item.is) in
    let many = ap (λ (ds : List Data). length ds) c.calls.ensures.calls in
    omega (arith, sum_by_more count_in sessions i null here, length-map c.calls.result.now view)

pub returns-clause-number : goal.returns-clause-number
returns-clause-number c =
    let sessions = map view c.args.sessions.now in
    c.loop-session.invariant ∙ ap call_count (take_all c.loop-session.session-index sessions (omega (arith, c.loop-session-test.false, length-map c.args.sessions.now view)))

pub returns-clause-fits : goal.returns-clause-fits
returns-clause-fits c =
    let sessions = map view c.args.sessions.now in
    omega (arith, all_calls c.args.sessions.now, sum_by-take-le count_in sessions c.loop-session.session-index, c.loop-session.invariant)
