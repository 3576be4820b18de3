use Rattle.std.proofs.Common.{◌<◌, ◌++◌, length, map, ap, ◌∙◌, arith}
use Rattle.std.proofs.lemmas.List.Elements.{All-same, All-rest}
use Rattle.serde_json.specs.Data.{string}
use Rattle.serde_json.specs.View.{view}
use Rattle.dcr_set.specs.EventSet.{numbers}
use Rattle.dcr_set.proofs.NumbersLemmas.{numbers-below}
use Rattle.dcr_format.proofs.ValueLemmas.{value_moved}
use Rattle.dcr_graph_json.specs.Text.{name_value}
use Rattle.dcr_cover_json.proofs.text.owned_values.Goals as goal

pub loop-e-init : goal.loop-e-init
loop-e-init c =
    let set = c.args.owned.now in
    let names = c.args.graph.now.names in
    let all = c.into_iter-e-iterator.ensures.into_iter_gives ∙ c.iter-e-items.ensures in
    let below = All-same (λ e. e < length set) c.into_iter-e-iterator.result (numbers set) all (numbers-below set) in
    record {
      atoms = λ k d within. omega (arith, below k d within, c.requires);
      added = ap (λ vs. map view vs ++ map (name_value names) c.into_iter-e-iterator.result) c.new-values.ensures.items ∙ ap (map (name_value names)) all;
    }

pub loop-e-preserved : goal.loop-e-preserved
loop-e-preserved c =
    let names = c.args.graph.now.names in
    record {
      atoms = All-rest (λ e. e < length names) c.in-Some.e c.next.new.self c.loop-e.e-iterator c.in-Some.ensures.steps c.loop-e.invariant.atoms;
      added =
          value_moved (name_value names) c.loop-e.values.items c.push.new.self.items c.in_ok-try_from_str.field-0 c.in-Some.e c.loop-e.e-iterator c.next.new.self _
          c.in_ok-push.ensures.items (c.in_ok-try_from_str.ensures ∙ ap string (c.text.ensures.text ∙ c.name.ensures)) c.in-Some.ensures.steps c.loop-e.invariant.added;
    }
