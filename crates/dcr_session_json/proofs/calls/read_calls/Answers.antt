use Rattle.std.proofs.Common.{◌≡◌, true, get_or, is_some, length, map, Some, unwrap_or, sym, ap, ◌∙◌, arith, rules}
use Rattle.std.proofs.lemmas.List.{length-map}
use Rattle.serde_json.specs.Data.{null}
use Rattle.serde_json.specs.View.{view}
use borrow.Author.Count.{below_more}
use Rattle.dcr_journal.specs.declared.call.Call.TheVariants.{Accepting}
use Rattle.dcr_format.specs.declared.stop.CaseStop.TheVariants.{CallLine}
use Rattle.dcr_format.proofs.FactLemmas.{below_none, below_first}
use Rattle.dcr_format.proofs.ValueLemmas.{map_more, map_whole, value_at}
use Rattle.dcr_session_json.specs.Build.{call_of}
use Rattle.dcr_session_json.proofs.calls.read_calls.Goals as goal

pub returns-in_default-clause-fact : goal.returns-in_default-clause-fact
returns-in_default-clause-fact c =
    let texts = map view c.args.texts.now in
    let sites = c.args.directory.now.sites in
    let names = c.args.directory.now.atoms in
    let j = c.loop-j.j in
    let here = value_at c.args.texts.now j c.index-texts-j.result c.loop-j-test.true c.index-texts-j.is in
    sym (below_first (length texts) (λ i. is_some (call_of sites names (get_or texts i null))) (CallLine c.args.k) j (omega (arith, c.loop-j-test.true, length-map c.args.texts.now view)) c.loop-j.invariant.read
    (ap (λ d. is_some (call_of sites names d)) here ∙ ap is_some (sym c.read_text.ensures ∙ c.in_default.is)))

pub loop-j-preserved : goal.loop-j-preserved
loop-j-preserved c =
    let texts = map view c.args.texts.now in
    let sites = c.args.directory.now.sites in
    let names = c.args.directory.now.atoms in
    let j = c.loop-j.j in
    let here = value_at c.args.texts.now j c.index-texts-j.result c.loop-j-test.true c.index-texts-j.is in
    let read : call_of sites names (get_or texts j null) ≡ Some c.in-Some.call = ap (call_of sites names) here ∙ (sym c.read_text.ensures ∙ c.in-Some.is) in
    let items = c.push_reserved.ensures.items in
    let capacity = c.push_reserved.ensures.capacity in
    let before = c.loop-j.invariant.reached in
    let reserved = c.loop-j.invariant.reserved in
    record {
      calls = map_more (λ d. unwrap_or (call_of sites names d) Accepting) texts j null c.loop-j.calls.items _ c.in-Some.call (omega (arith, c.loop-j-test.true, length-map c.args.texts.now view)) c.loop-j.invariant.calls c.push_reserved.ensures.items
          (sym (ap (λ o. unwrap_or o Accepting) read));
      read = below_more (λ i. is_some (call_of sites names (get_or texts i null)) ≡ true) j c.loop-j.invariant.read (ap is_some read);
      reached = search rules;
      reserved = search rules;
    }

pub returns-clause-fact : goal.returns-clause-fact
returns-clause-fact c =
    let texts = map view c.args.texts.now in
    sym (below_none (length texts) (λ i. is_some (call_of c.args.directory.now.sites c.args.directory.now.atoms (get_or texts i null))) (CallLine c.args.k) (λ i l. c.loop-j.invariant.read i (omega (arith, c.loop-j-test.false, length-map c.args.texts.now view))))

pub returns-clause-calls : goal.returns-clause-calls
returns-clause-calls c =
    let texts = map view c.args.texts.now in
    map_whole (λ d. unwrap_or (call_of c.args.directory.now.sites c.args.directory.now.atoms d) Accepting) texts c.loop-j.j c.loop-j.calls.items (omega (arith, c.loop-j-test.false, length-map c.args.texts.now view)) c.loop-j.invariant.calls
