use Rattle.std.proofs.Common.{◌≡◌, [], Option, Some, sym, subst}
use Rattle.dcr_tape.specs.declared.tape.Store.{Store}
use Rattle.dcr_cell.specs.Stored.{StoreStands}
use Rattle.dcr_cluster.proofs.StoreLemmas.{left_unbegun}
use Rattle.dcr_cluster.proofs.open.begin.Goals as goal

pub returns-in-Err-clause-refused : goal.returns-in-Err-clause-refused
returns-in-Err-clause-refused g c = record { stands = c.in-Err.ensures.cause c.requires.possible; leaves = c.in-Err.ensures.leaves }

pub returns-in-Err-begin-clause-refused : goal.returns-in-Err-begin-clause-refused
returns-in-Err-begin-clause-refused g c =
    let view = g.D.Disk.view in let faults = g.D.Disk.faults in let old = g.N.ClusterName.cluster.old in
    let same : c.into_store.result ≡ c.new.result.store = (
    let a = c.into_store.ensures in let b = c.in-Err-begin.ensures in let d = c.in-Err-begin.kept-is in let e = c.in-Err-begin.field-0-is in cc) in
    let stands = subst (λ (o : Option (Store g.row.D.Denot)). StoreStands view faults o old [] c.new.result.store) c.requires.store c.new.ensures.stored in
    record {
      stands = record {};
      leaves = left_unbegun view faults old c.args.store c.into_store.result (subst (StoreStands view faults (Some c.args.store) old []) (sym same) stands);
    }
