use Rattle.std.proofs.Common.{◌≡◌, true, get_or, is_some, length, map, Some, unwrap_or, sym, ap, ◌∙◌, arith}
use Rattle.std.proofs.lemmas.List.{length-map}
use Rattle.serde_json.specs.Data.{null}
use Rattle.serde_json.specs.View.{view}
use borrow.Author.Count.{below_more}
use Rattle.dcr_format.specs.declared.stop.CaseStop.TheVariants.{RelationEnd}
use Rattle.dcr_format.proofs.FactLemmas.{below_none, below_first}
use Rattle.dcr_graph_json.specs.Build.{no_pair, pair_in}
use Rattle.dcr_graph_json.proofs.LoopLemmas.{map_more, map_whole, value_at}
use Rattle.dcr_graph_json.proofs.pairs.read_pairs.Goals as goal

pub returns-in_default-clause-fact : goal.returns-in_default-clause-fact
returns-in_default-clause-fact c = λ memory.
    let relations = map view c.args.relations.now in
    let i = c.loop-i.i in
    let here = value_at c.args.relations.now i c.index-relations-i.result c.loop-i-test.true c.index-relations-i.is in
    below_first (length relations) (λ k. is_some (pair_in c.args.names.now (get_or relations k null))) RelationEnd i (omega (arith, c.loop-i-test.true, length-map c.args.relations.now view)) c.loop-i.invariant.ends
    (ap (λ d. is_some (pair_in c.args.names.now d)) here ∙ ap is_some (sym c.read_pair.ensures ∙ c.in_default.is))

pub loop-i-preserved : goal.loop-i-preserved
loop-i-preserved c =
    let relations = map view c.args.relations.now in
    let names = c.args.names.now in
    let i = c.loop-i.i in
    let here = value_at c.args.relations.now i c.index-relations-i.result c.loop-i-test.true c.index-relations-i.is in
    let read : pair_in names (get_or relations i null) ≡ Some c.in-Some.pair = ap (pair_in names) here ∙ (sym c.read_pair.ensures ∙ c.in-Some.is) in
    record {
      pairs = map_more (λ d. unwrap_or (pair_in names d) no_pair) relations i null c.loop-i.pairs.items _ c.in-Some.pair (omega (arith, c.loop-i-test.true, length-map c.args.relations.now view)) c.loop-i.invariant.pairs c.in_ok-push.ensures.items
          (sym (ap (λ o. unwrap_or o no_pair) read));
      ends = below_more (λ k. is_some (pair_in names (get_or relations k null)) ≡ true) i c.loop-i.invariant.ends (ap is_some read);
    }

pub returns-clause-fact : goal.returns-clause-fact
returns-clause-fact c =
    let relations = map view c.args.relations.now in
    below_none (length relations) (λ k. is_some (pair_in c.args.names.now (get_or relations k null))) RelationEnd (λ k l. c.loop-i.invariant.ends k (omega (arith, c.loop-i-test.false, length-map c.args.relations.now view)))

pub returns-clause-pairs : goal.returns-clause-pairs
returns-clause-pairs c =
    let relations = map view c.args.relations.now in
    map_whole (λ d. unwrap_or (pair_in c.args.names.now d) no_pair) relations c.loop-i.i c.loop-i.pairs.items (omega (arith, c.loop-i-test.false, length-map c.args.relations.now view)) c.loop-i.invariant.pairs
