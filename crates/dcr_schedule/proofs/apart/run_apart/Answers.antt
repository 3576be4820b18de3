use Rattle.std.proofs.Common.{arith}
use Rattle.dcr_graph.specs.GraphValue.{rules_of}
use Rattle.dcr_schedule.proofs.ApartLemmas.{entries_apart, in_range_apart}
use Rattle.dcr_schedule.proofs.apart.run_apart.Goals as goal

pub run_nodes-requires-clause-in_range : goal.run_nodes-requires-clause-in_range
run_nodes-requires-clause-in_range c =
    in_range_apart (rules_of c.args.graph.now) c.args.cover.now.owned c.args.opening.now c.args.sessions.now c.in_ok-world.world c.in_ok-world.ensures.right c.requires.in_range

pub close-requires : goal.close-requires
close-requires c = c.in_ok-run_nodes.ensures.heard (rules_of c.args.graph.now) c.args.cover.now.owned c.args.opening.now c.in_ok-world.ensures.right

pub returns : goal.returns
returns c =
    let G = rules_of c.args.graph.now in let C = c.args.cover.now.owned in let M = c.args.opening.now in
    let right = c.run_nodes.ensures.right G C M c.in_ok-world.ensures.right in record {
      right = right;
      told = c.in_ok-run_nodes.ensures.told G C M c.in_ok-world.ensures.right;
      heard = c.in_ok-run_nodes.ensures.heard G C M c.in_ok-world.ensures.right;
      closes = c.in_ok-closed.ensures G C M right;
      most_entries = entries_apart G C M c.args.sessions.now c.run_nodes.new.world.journal.history.entries (c.in_ok-run_nodes.ensures.told G C M c.in_ok-world.ensures.right)
          (let counted = c.count_executions-capacity.ensures.counted in let few = c.count_executions-capacity.ensures.few in omega (arith, counted, few));
    }
