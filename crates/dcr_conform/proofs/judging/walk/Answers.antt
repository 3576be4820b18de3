use Rattle.std.proofs.Common.{◌≡◌, ℕ, ◌+◌, List, Option, Some, drop, length, sym, ap, subst, ◌∙◌, arith}
use Rattle.std.specs.Option.{option_map}
use Rattle.std.specs.Borrow.{Bor}
use Rattle.std.specs.List.{slice_get}
use Rattle.dcr_graph.specs.Cause.{cause, waits}
use Rattle.dcr_graph.specs.GraphValue.{Flat, rules_of}
use Rattle.dcr_graph.specs.Names.{number_of}
use Rattle.dcr_graph.specs.Step.{step}
use Rattle.dcr_graph.specs.declared.kind.Cause.{Cause}
use Rattle.dcr_graph.specs.declared.marking.Marking.{Marking}
use Rattle.dcr_conform.proofs.JudgeLemmas.{comes_on, comes_to_end, fits_by, judged_by, numbered, stops_refused, stops_unknown, walked}
use Rattle.dcr_conform.specs.Judge.{verdict_on}
use Rattle.dcr_conform.specs.declared.judged.Judged.TheVariants.{Refused, Waits}
use Rattle.dcr_conform.proofs.judging.walk.Goals as goal
use Rattle.dcr_conform.proofs.judging.walk.Goals.{After-waits, In-Some, In-Some-why}

-- the text that was got stands there
stands : (texts : List (List ℕ)) (place : ℕ) (got : Option (Bor (List ℕ))) (text : Bor (List ℕ)) → option_map (λ (t : Bor (List ℕ)). t.now) got ≡ slice_get texts place → got ≡ Some text
    → slice_get texts place ≡ Some text.now
stands texts place got text e is = sym e ∙ ap (option_map (λ (t : Bor (List ℕ)). t.now)) is

-- what was found in the index is its number
number_is : (names others : List (List ℕ)) (bytes text : List ℕ) (found o : Option ℕ) → found ≡ number_of names bytes → names ≡ others → bytes ≡ text → found ≡ o → number_of others text ≡ o
number_is names others bytes text found o told same is e = ap (λ ns. number_of ns text) (sym same) ∙ (ap (number_of names) (sym is) ∙ (sym told ∙ e))

-- a marking stepped over a graph is stepped over the same
cause_is : (graph other : Flat) (M : Marking) (e : ℕ) (found o : Option Cause) → found ≡ cause (rules_of graph) M e → graph ≡ other → found ≡ o → cause (rules_of other) M e ≡ o
cause_is graph other M e found o told same is = ap (λ g. cause (rules_of g) M e) (sym same) ∙ (sym told ∙ is)

pub returns-in_default-clause-judged : goal.returns-in_default-clause-judged
returns-in_default-clause-judged c =
    let texts = c.args.events.now in
    let place = c.loop-place.place in
    let text = c.unwrap-text.result in
    judged_by c.args.graph.now c.args.start.now texts _
    (stops_unknown c.args.graph.now c.args.start.now c.loop-place.plain.marking texts place text.now c.loop-place.invariant.answer
    (stands texts place c.get.result text c.get.ensures c.unwrap-text.ensures)
    (number_is c.args.names.now c.args.graph.now.names c.as_bytes.result.now text.now c.find.result _ c.find.ensures c.requires.names c.as_bytes.ensures.value c.in_default.is))

-- the number of the text at this place
here : (c : In-Some) → number_of c.args.graph.now.names c.unwrap-text.result.now ≡ Some c.in-Some.number
here c = number_is c.args.names.now c.args.graph.now.names c.as_bytes.result.now c.unwrap-text.result.now c.find.result _ c.find.ensures c.requires.names c.as_bytes.ensures.value c.in-Some.is

pub why-requires : goal.why-requires
why-requires c =
    rw c.loop-place.invariant.graph (numbered c.args.graph.now c.unwrap-text.result.now c.in-Some.number (here (goal.at.why-requires c).In-Some))

-- the answer where it can't be executed
refused : (c : In-Some-why) → Refused c.loop-place.place c.in-Some-why.why ≡ walked c.args.graph.now c.args.start.now 0 c.args.events.now
refused c =
    let texts = c.args.events.now in
    let place = c.loop-place.place in
    let text = c.unwrap-text.result in
    let N = c.loop-place.plain.marking in
    stops_refused c.args.graph.now c.args.start.now N texts place text.now c.in-Some.number c.in-Some-why.why c.loop-place.invariant.answer
    (stands texts place c.get.result text c.get.ensures c.unwrap-text.ensures) (here (goal.at.In-Some-why c).In-Some)
    (cause_is c.loop-place.plain.graph c.args.graph.now N c.in-Some.number c.why.result _ c.why.ensures c.loop-place.invariant.graph c.in-Some-why.is)

pub returns-in-Some-why-clause-judged : goal.returns-in-Some-why-clause-judged
returns-in-Some-why-clause-judged c = judged_by c.args.graph.now c.args.start.now c.args.events.now _ (refused (goal.at.returns-in-Some-why-clause-judged c).In-Some-why)

pub returns-in-Some-why-clause-fits : goal.returns-in-Some-why-clause-fits
returns-in-Some-why-clause-fits c = fits_by c.args.graph.now c.args.start.now c.args.events.now (Refused c.loop-place.place c.in-Some-why.why) (refused (goal.at.returns-in-Some-why-clause-fits c).In-Some-why)

pub execute-requires : goal.execute-requires
execute-requires c =
    rw c.loop-place.invariant.graph (numbered c.args.graph.now c.unwrap-text.result.now c.in-Some.number (here (goal.at.execute-requires c).In-Some))

pub loop-place-preserved : goal.loop-place-preserved
loop-place-preserved c =
    let graph = c.args.graph.now in
    let texts = c.args.events.now in
    let place = c.loop-place.place in
    let text = c.unwrap-text.result in
    let N = c.loop-place.plain.marking in
    let same = c.loop-place.invariant.graph in
    let stepped : c.execute.new.self.marking ≡ step (rules_of graph) N c.in-Some.number = c.execute.ensures.stepped ∙ ap (λ g. step (rules_of g) N c.in-Some.number) same in
    record {
      graph = c.execute.ensures.graph ∙ same;
      answer =
          ap (λ M. walked graph M (place + 1) (drop (place + 1) texts)) stepped
          ∙ comes_on graph c.args.start.now N texts place text.now c.in-Some.number c.loop-place.invariant.answer
          (stands texts place c.get.result text c.get.ensures c.unwrap-text.ensures) (here (goal.at.loop-place-preserved c).In-Some)
          (cause_is c.loop-place.plain.graph graph N c.in-Some.number c.why.result _ c.why.ensures same c.in_default-why.is);
    }

-- the answer where all are executed
waiting : (c : After-waits) → verdict_on c.len-count.result c.waits.result ≡ walked c.args.graph.now c.args.start.now 0 c.args.events.now
waiting c =
    let graph = c.args.graph.now in
    let N = c.loop-place.plain.marking in
    let whole : c.loop-place.place ≡ length c.args.events.now = omega (arith, c.loop-place-test.false, c.loop-place.auto, c.len-place-end.ensures) in
    let same : c.loop-place.place ≡ c.len-count.result = whole ∙ sym c.len-count.ensures in
    subst (λ n. verdict_on n c.waits.result ≡ walked graph c.args.start.now 0 c.args.events.now) same
    (ap (verdict_on c.loop-place.place) (c.waits.ensures ∙ ap (λ g. waits (length g.names) N) c.loop-place.invariant.graph)
    ∙ comes_to_end graph c.args.start.now N c.args.events.now c.loop-place.place c.loop-place.invariant.answer whole)

pub returns-in-Some-waits-clause-judged : goal.returns-in-Some-waits-clause-judged
returns-in-Some-waits-clause-judged c =
    judged_by c.args.graph.now c.args.start.now c.args.events.now _ (ap (verdict_on c.len-count.result) (sym c.in-Some-waits.is) ∙ waiting (goal.at.returns-in-Some-waits-clause-judged c).After-waits)

pub returns-in-Some-waits-clause-fits : goal.returns-in-Some-waits-clause-fits
returns-in-Some-waits-clause-fits c =
    fits_by c.args.graph.now c.args.start.now c.args.events.now (Waits c.in-Some-waits.e c.len-count.result)
    (ap (verdict_on c.len-count.result) (sym c.in-Some-waits.is) ∙ waiting (goal.at.returns-in-Some-waits-clause-fits c).After-waits)

pub returns-in-None-clause-judged : goal.returns-in-None-clause-judged
returns-in-None-clause-judged c =
    judged_by c.args.graph.now c.args.start.now c.args.events.now _ (ap (verdict_on c.len-count.result) (sym c.in-None.is) ∙ waiting (goal.at.returns-in-None-clause-judged c).After-waits)
