use Rattle.std.proofs.Common.{sym, subst}
use Rattle.dcr_cluster.specs.Opening.{Refused}
use Rattle.dcr_cluster.specs.declared.refused.OpenRefused.{OpenRefused}
use Rattle.dcr_engine.specs.Ran.{cluster_of}
use Rattle.dcr_engine.proofs.UnbegunLemmas.{unopened}
use Rattle.dcr_engine.proofs.serve.serve_case.Goals as goal

pub returns-in_default-clause-refused : goal.returns-in_default-clause-refused
returns-in_default-clause-refused g c =
    let id = cluster_of c.args.graph.now c.args.cover.now c.args.opening.now c.args.old.now in
    subst (λ (r : OpenRefused _). Refused g.D.Disk.view g.D.Disk.faults id c.args.store r.cause r.store) (sym c.no_memory.ensures)
    (unopened g.D.Disk.view g.D.Disk.faults id c.args.store c.requires.begins)
