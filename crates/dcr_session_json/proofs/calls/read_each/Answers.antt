use Rattle.std.proofs.Common.{◌≡◌, ◌≢◌, None, Some, map, sym, ap, ◌∙◌, arith, rules}
use Rattle.std.proofs.lemmas.List.{length-map}
use Rattle.serde_json.specs.Data.{null}
use Rattle.serde_json.specs.View.{view}
use Rattle.serde_json.specs.declared.value.Value.{Value}
use Rattle.dcr_format.specs.Size.{size}
use Rattle.dcr_format.proofs.SizeLemmas.{length-items, size-item}
use borrow.Author.Count.{below_more}
use Rattle.dcr_format.specs.Facts.{first}
use Rattle.dcr_format.specs.declared.stop.CaseStop.TheVariants.{NoMemory}
use Rattle.dcr_format.proofs.ValueLemmas.{map_more, map_whole, value_at}
use Rattle.dcr_session_json.specs.Build.{build_facts, calls_fact, calls_of, session_at, sessions_in}
use Rattle.dcr_session_json.specs.Written.{calls_in}
use Rattle.dcr_session_json.proofs.CallLemmas.{sessions_none, sessions_stop}
use Rattle.dcr_session_json.proofs.calls.read_each.Goals as goal

pub overflow_cast-k : goal.overflow_cast-k
overflow_cast-k c = omega (arith, c.requires, c.loop-k-test.true, length-items c.args.sessions.now)

pub read_calls-requires-clause-few : goal.read_calls-requires-clause-few
read_calls-requires-clause-few c =
    let session = c.index-sessions-k.result in
    let small = size-item c.args.sessions.now c.loop-k.k session c.loop-k-test.true in
    let same = ap (λ (v : Value). size (view v)) c.index-sessions-k.is in
    omega (arith, c.requires, c.calls-texts.ensures.few, length-items c.calls-texts.result.now)

pub returns-in_err-calls-clause-facts : goal.returns-in_err-calls-clause-facts
returns-in_err-calls-clause-facts c =
    let sessions = map view c.args.sessions.now in
    let sites = c.args.directory.now.sites in
    let names = c.args.directory.now.atoms in
    let k = c.loop-k.k in
    let here = value_at c.args.sessions.now k c.index-sessions-k.result c.loop-k-test.true c.index-sessions-k.is in
    let stopped : c.in_err-calls.field-0.0 ≢ NoMemory → first (build_facts sites names sessions) ≡ Some c.in_err-calls.field-0.0 = λ memory.
    sessions_stop sites names sessions k c.in_err-calls.field-0.0 (omega (arith, c.loop-k-test.true, length-map c.args.sessions.now view)) c.loop-k.invariant.facts
    (ap (λ d. calls_fact sites names k (calls_in d)) here ∙ ap (calls_fact sites names k) (sym c.calls-texts.ensures.calls) ∙ sym c.in_err-calls.ensures.fact) in
    search rules

pub loop-k-preserved : goal.loop-k-preserved
loop-k-preserved c =
    let sessions = map view c.args.sessions.now in
    let sites = c.args.directory.now.sites in
    let names = c.args.directory.now.atoms in
    let k = c.loop-k.k in
    let here = value_at c.args.sessions.now k c.index-sessions-k.result c.loop-k-test.true c.index-sessions-k.is in
    record {
      sessions = map_more (λ session. calls_of sites names (calls_in session)) sessions k null c.loop-k.read.items _ c.new.result (omega (arith, c.loop-k-test.true, length-map c.args.sessions.now view)) c.loop-k.invariant.sessions c.in_ok-push.ensures.items
          (c.new.ensures ∙ (c.in_ok-calls.ensures.calls ∙ (ap (calls_of sites names) c.calls-texts.ensures.calls ∙ sym (ap (λ d. calls_of sites names (calls_in d)) here))));
      facts = below_more (λ i. calls_fact sites names i (calls_in (session_at sessions i)) ≡ None) k c.loop-k.invariant.facts
          (ap (λ d. calls_fact sites names k (calls_in d)) here ∙ ap (calls_fact sites names k) (sym c.calls-texts.ensures.calls) ∙ sym c.in_ok-calls.ensures.fact);
    }

pub returns-clause-facts : goal.returns-clause-facts
returns-clause-facts c =
    let sessions = map view c.args.sessions.now in
    sessions_none c.args.directory.now.sites c.args.directory.now.atoms sessions (λ i l. c.loop-k.invariant.facts i (omega (arith, c.loop-k-test.false, length-map c.args.sessions.now view)))

pub returns-clause-sessions : goal.returns-clause-sessions
unfolding sessions_in
returns-clause-sessions c =
    let sessions = map view c.args.sessions.now in
    map_whole (λ session. calls_of c.args.directory.now.sites c.args.directory.now.atoms (calls_in session)) sessions c.loop-k.k c.loop-k.read.items (omega (arith, c.loop-k-test.false, length-map c.args.sessions.now view)) c.loop-k.invariant.sessions
