use Rattle.std.proofs.Common.{◌≡◌, List, refl, sym, ap, subst, ◌∙◌}
use Rattle.dcr_journal.specs.declared.call.Entry.{Entry}
use Rattle.dcr_tape.specs.declared.tape.Store.{Store}
use Rattle.dcr_cell.specs.Stored.{StoreStands}
use Rattle.dcr_orderer.proofs.orderer.Orderer.with_store.Goals as goal

-- what is looked at stands for what the pass has seen
pub returns-clause-looked : goal.returns-clause-looked
returns-clause-looked g c =
    let view = g.D.Disk.view in let faults = g.D.Disk.faults in let old = g.N.ClusterName.cluster.old in let first = g.N.StoreName.first in
    let same_kept : c.kept.result.now ≡ c.lock-guard.result.kept = c.kept.ensures.value ∙ ap (λ guard. guard.kept) c.meet.ensures.same in
    let same_store : c.store.result.now ≡ c.lock-guard.result.kept.store = c.store.ensures ∙ ap (λ kept. kept.store) same_kept in
    let stands : StoreStands view faults first old c.meet.new.pass.front c.store.result.now =
    subst (λ (J : List Entry). StoreStands view faults first old J c.store.result.now) (sym c.meet.ensures.front)
    (subst (λ (store : Store g.row.D.Denot). StoreStands view faults first old c.lock-guard.result.entries store) (sym same_store) c.lock-guard.ensures.kept.0.stored) in
    (c.store.result.now, stands, (c.store.result, c.look-told.ensures, refl))
