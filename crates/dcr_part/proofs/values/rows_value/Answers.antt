use Rattle.std.proofs.Common.{◌<◌, ◌++◌, ◌&&◌, length, map, ap, ◌∙◌, arith}
use Rattle.std.proofs.lemmas.List.Elements.{All-same, All-rest}
use Rattle.serde_json.specs.Data.{array, no_items, item}
use Rattle.serde_json.specs.View.{view}
use Rattle.dcr_set.specs.EventSet.{has, intersection, numbers}
use Rattle.dcr_set.proofs.NumbersLemmas.{numbers-below}
use Rattle.dcr_set.proofs.ToldLemmas.{intersection-those}
use Rattle.dcr_graph.specs.GraphValue.{rules_of}
use Rattle.dcr_format.proofs.ValueLemmas.{value_moved}
use Rattle.dcr_part.specs.PartText.{number_value, set_value, row_value}
use Rattle.dcr_part.proofs.TextLemmas.{sources_are}
use Rattle.dcr_part.proofs.values.rows_value.Goals as goal

pub loop-a-init : goal.loop-a-init
loop-a-init c =
    let G = rules_of c.args.graph.now in let n = length c.args.graph.now.names in let within = c.args.within.now in
    let all = c.into_iter-a-iterator.ensures.into_iter_gives ∙ c.iter-a-items.ensures in
    let below = All-same (λ a. a < length c.sources_into-sources.result) c.into_iter-a-iterator.result (numbers c.sources_into-sources.result) all (numbers-below c.sources_into-sources.result) in
    let row = row_value n (λ a b. G.related c.args.kind a b && has within b) in
    record {
      atoms = λ k d inside. omega (arith, below k d inside, c.sources_into-sources.ensures.room);
      added =
          ap (λ vs. map view vs ++ map row c.into_iter-a-iterator.result) c.new-rows.ensures.items
          ∙ ap (map row) (all ∙ ap numbers (c.sources_into-sources.ensures.sources ∙ sources_are G c.args.kind within));
    }

pub loop-a-preserved : goal.loop-a-preserved
loop-a-preserved c =
    let G = rules_of c.args.graph.now in let n = length c.args.graph.now.names in let within = c.args.within.now in
    let row = row_value n (λ a b. G.related c.args.kind a b && has within b) in
    record {
      atoms = All-rest (λ a. a < n) c.in-Some.a c.next.new.self c.loop-a.a-iterator c.in-Some.ensures.steps c.loop-a.invariant.atoms;
      added =
          value_moved row c.loop-a.rows.items c.push.new.self.items c.in_ok-row_value.field-0 c.in-Some.a c.loop-a.a-iterator c.next.new.self _ c.in_ok-push.ensures.items
          (c.in_ok-row_value.ensures ∙ ap (λ s. array (item (number_value c.in-Some.a) (item (set_value s) no_items)))
          (c.common-targets.ensures.common ∙ ap (λ s. intersection s within) c.targets.ensures.targets ∙ intersection-those n (λ b. G.related c.args.kind c.in-Some.a b) within))
          c.in-Some.ensures.steps c.loop-a.invariant.added;
    }
