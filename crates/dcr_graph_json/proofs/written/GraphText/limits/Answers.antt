use Rattle.std.proofs.Common.{arith}
use Rattle.dcr_format.proofs.SizeLemmas.{length-items}
use Rattle.dcr_graph_json.proofs.written.GraphText.limits.Goals as goal

pub try_count-requires : goal.try_count-requires
try_count-requires c = omega (arith, c.args.self.now.few_events, length-items c.args.self.now.events.now)
