use Rattle.std.proofs.Common.{ℕ, ◌≤◌, length, subst, ◌∙◌}
use Rattle.dcr_link.specs.Replies.{terms_of}
use Rattle.dcr_engine.proofs.ServedLemmas.{served}
use Rattle.dcr_engine.proofs.serve.in_cluster.Goals as goal

pub returns-clause-served : goal.returns-clause-served
returns-clause-served g c =
    served g.D.Disk.view g.D.Disk.faults _ g.N.ClusterName.cluster g.N.TurnName.turn g.N.StoreName.first c.args.store g.N.TurnName.capacity (terms_of c.args.cover.now.names c.args.graph.now.names c.args.policy.now)
    (g.B.Door.tells.links c.args.door) c.serve_sessions-end.result.passes.items c.serve_sessions-end.result.ends.items c.close-finished.result.closed c.close-finished.result.store c.requires.named c.requires.store c.requires.capacity
    (subst (λ (n : ℕ). length c.close-finished.result.closed.history.entries ≤ n) (c.close-finished.ensures.capacity_kept ∙ c.requires.capacity) c.len.ensures.room) c.serve_sessions-end.ensures.served c.close-finished.ensures
