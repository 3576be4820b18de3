use Rattle.std.proofs.Common.{sym, ◌∙◌}
use Rattle.dcr_adapt.proofs.StageLemmas.{least_dropped}
use Rattle.dcr_adapt.proofs.dropping.keep_each.Goals as goal

pub name-requires : goal.name-requires
name-requires c = (least_dropped c.args.graph.now.names c.args.next.now.names c.in-Some.a (sym c.in_ok-a.ensures ∙ c.in-Some.is)).dropped.atom
