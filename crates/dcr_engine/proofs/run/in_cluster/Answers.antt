use Rattle.std.proofs.Common.{◌≤◌, ℕ, sym, subst, ◌∙◌}
use Rattle.dcr_cluster.specs.Opening.{Refused}
use Rattle.dcr_cluster.specs.declared.refused.OpenRefused.{OpenRefused}
use Rattle.dcr_engine.proofs.RanLemmas.{ran}
use Rattle.dcr_engine.proofs.UnbegunLemmas.{refused}
use Rattle.dcr_engine.proofs.run.in_cluster.Goals as goal

pub returns-in-Ok-run_sessions-clause-ran : goal.returns-in-Ok-run_sessions-clause-ran
returns-in-Ok-run_sessions-clause-ran g c =
    ran g.D.Disk.view g.D.Disk.faults g.N.ClusterName.cluster g.N.TurnName.turn g.N.StoreName.first c.args.store g.N.TurnName.capacity c.args.workers c.args.sessions.now c.in-Ok-run_sessions.passes.items
    c.close.result.closed c.close.result.store c.requires.named c.history_in_worker_order.ensures c.requires.store c.requires.as_many (sym c.requires.capacity ∙ c.requires.all_calls)
    (subst (λ (n : ℕ). n ≤ 200000) c.requires.capacity c.requires.most) c.in-Ok-run_sessions.ensures.worked c.close.ensures

pub returns-in-Err-run_sessions-clause-refused : goal.returns-in-Err-run_sessions-clause-refused
returns-in-Err-run_sessions-clause-refused g c =
    subst (λ (r : OpenRefused _). Refused g.D.Disk.view g.D.Disk.faults g.N.ClusterName.cluster c.args.store r.cause r.store) (sym c.no_memory.ensures)
    (refused g.D.Disk.view g.D.Disk.faults g.N.ClusterName.cluster g.N.TurnName.turn g.N.StoreName.first g.N.TurnName.capacity c.in-Err-run_sessions.field-0.passes.items
    c.close-in-Err-run_sessions.result.closed c.args.store c.close-in-Err-run_sessions.result.store c.requires.store (c.in-Err-run_sessions.ensures.stopped ∙ c.in-Ok.ensures.passes)
    c.close-in-Err-run_sessions.ensures)
