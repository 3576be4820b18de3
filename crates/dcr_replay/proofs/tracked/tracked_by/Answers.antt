use Rattle.dcr_graph.specs.GraphValue.{rules_of}
use Rattle.dcr_replay.proofs.TrackedLemmas.{tracked_is}
use Rattle.dcr_replay.proofs.tracked.tracked_by.Goals as goal

pub returns : goal.returns
returns c =
    tracked_is (rules_of c.args.graph.now) c.args.owned.now c.sources_into-conditions.result c.sources_into-milestones.result
    c.joined-executed.result c.joined-pending.result c.joined.result c.joined-included.result c.requires
    c.sources_into-conditions.ensures.sources c.sources_into-milestones.ensures.sources
    c.joined-executed.ensures.joined c.joined-pending.ensures.joined c.joined.ensures.joined c.joined-included.ensures.joined
