use Rattle.std.proofs.Common.{arith}
use Rattle.dcr_format.proofs.SizeLemmas.{length-items}
use Rattle.dcr_format.specs.declared.stop.CaseStop.TheVariants.{Shape}
use Rattle.dcr_format.specs.declared.stop.Part.TheVariants as part
use Rattle.dcr_graph_json.specs.Shape.{is_relation}
use Rattle.dcr_graph_json.proofs.LoopLemmas.{all_values}
use Rattle.dcr_graph_json.proofs.written.GraphText.shape.Goals as goal

pub try_events-requires : goal.try_events-requires
try_events-requires c = omega (arith, c.in-Some-read_arrays.ensures.few_events, c.requires c.in-Some.graph c.in-Some.is, length-items c.in-Some-read_arrays.arrays.events.now)

pub try_relations-requires : goal.try_relations-requires
try_relations-requires c = omega (arith, c.in-Some-read_arrays.ensures.few_relations, c.requires c.in-Some.graph c.in-Some.is, length-items c.in-Some-read_arrays.arrays.relations.now)

pub invariant_of-result-clause-few_events : goal.invariant_of-result-clause-few_events
invariant_of-result-clause-few_events c = omega (arith, c.in-Some-read_arrays.ensures.few_events, c.requires c.in-Some.graph c.in-Some.is)

pub invariant_of-result-clause-few_relations : goal.invariant_of-result-clause-few_relations
invariant_of-result-clause-few_relations c = omega (arith, c.in-Some-read_arrays.ensures.few_relations, c.requires c.in-Some.graph c.in-Some.is, length-items c.in-Some-read_arrays.arrays.relations.now)

pub invariant_of-result-clause-kinds : goal.invariant_of-result-clause-kinds
invariant_of-result-clause-kinds c = all_values (is_relation c.args.version) (Shape part.Relation) c.in-Some-read_arrays.arrays.relations.now c.in_ok-try_relations.ensures
