use Rattle.std.proofs.Common.{◌<◌, length, sym, ap, subst, ◌∙◌}
use Rattle.std.specs.List.{All}
use Rattle.std.proofs.lemmas.List.Elements.{All-same, All-rest}
use Rattle.dcr_set.specs.EventSet.{has, no_event, numbers}
use Rattle.dcr_set.proofs.NumbersLemmas.{numbers-below}
use Rattle.dcr_graph.specs.GraphValue.{rules_of}
use Rattle.dcr_graph.specs.Projection.{leads_to}
use Rattle.dcr_graph.proofs.GatheredLemmas.{Joins, joins_none, joins_more, joins_all}
use Rattle.dcr_graph.proofs.graph.Graph.sources_into.Goals as goal

pub loop-e-init : goal.loop-e-init
loop-e-init c =
    let G = rules_of c.args.self.now in let targets = c.args.targets.now in let n = length c.args.self.now.names in let kind = c.args.kind in
    let all = c.into_iter-e-iterator.ensures.into_iter_gives ∙ c.iter-e-items.ensures in
    record {
      room = c.new-sources.ensures.room ∙ c.atoms.ensures.atoms;
      atoms = subst (λ m. All (λ e. e < m) c.into_iter-e-iterator.result) c.requires
          (All-same (λ e. e < length targets) c.into_iter-e-iterator.result (numbers targets) all (numbers-below targets));
      joined = subst (λ s. Joins n (G.related kind) (leads_to G kind (has targets)) s c.into_iter-e-iterator.result) (sym (c.new-sources.ensures.empty ∙ ap no_event c.atoms.ensures.atoms))
          (joins_none n (G.related kind) targets c.into_iter-e-iterator.result c.requires all);
    }

pub loop-e-preserved : goal.loop-e-preserved
loop-e-preserved c =
    let G = rules_of c.args.self.now in let targets = c.args.targets.now in let n = length c.args.self.now.names in let kind = c.args.kind in
    let before = c.loop-e.invariant in
    record {
      room = c.union_with.ensures.room ∙ before.room;
      atoms = All-rest (λ e. e < n) c.in-Some.e c.next.new.self c.loop-e.e-iterator c.in-Some.ensures.steps before.atoms;
      joined = subst (λ s. Joins n (G.related kind) (leads_to G kind (has targets)) s c.next.new.self) (sym c.union_with.ensures.joined)
          (joins_more n (G.related kind) (leads_to G kind (has targets)) c.loop-e.sources c.sources.result.now c.in-Some.e c.next.new.self c.loop-e.e-iterator
          before.room c.sources.ensures.sources c.in-Some.ensures.steps before.joined);
    }

pub returns-clause-sources : goal.returns-clause-sources
returns-clause-sources c =
    let G = rules_of c.args.self.now in
    joins_all (length c.args.self.now.names) (G.related c.args.kind) (leads_to G c.args.kind (has c.args.targets.now)) c.loop-e.sources c.loop-e.e-iterator
    c.loop-e.invariant.room c.in-None.ensures.steps.0 c.loop-e.invariant.joined
