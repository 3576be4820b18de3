use Rattle.std.proofs.Common.{◌≡◌, ℕ, ap, sym, ◌∙◌, subst}
use Rattle.dcr_journal.specs.declared.call.Call.TheVariants.{Exec}
use Rattle.dcr_cell.specs.Stored.{CanKeep, StoreStands}
use Rattle.dcr_cell.proofs.StoreLemmas.{store_done, store_fault}
use Rattle.dcr_order.proofs.keeping.keep.Goals as goal

pub returns-in-Ok-clause-kept : goal.returns-in-Ok-clause-kept
returns-in-Ok-clause-kept g c = λ J entry stands none call done.
    let view = g.D.Disk.view in
    let faults = g.D.Disk.faults in
    let first = g.N.StoreName.first in
    let old = g.N.ClusterName.cluster.old in
    let asked : entry.call ≡ Exec c.site.inside.0 c.event.inside.0 =
    call ∙ ap (λ (i : ℕ). Exec i c.args.event) (sym c.site.view_is) ∙ ap (λ (e : ℕ). Exec c.site.inside.0 e) (sym c.event.view_is) in
    let can = subst (λ s. CanKeep s) c.in-On.is c.requires in
    store_done view faults old J entry none first c.in-On.tape c.append.new.self c.site.inside.0 c.event.inside.0 asked done
    (record { images = c.append.ensures.any_moment; same = c.append.ensures.same.0 })
    (record {
      running = c.in-Ok.ensures.running;
      renewed = c.append.ensures.same.1 ∙ can.1;
      keeps = c.in-Ok.ensures.kept;
      steady = c.in-Ok.ensures.steady;
      counts = c.in-Ok.ensures.faults;
    })
    (subst (λ s. StoreStands view faults first old J s) c.in-On.is stands)

pub returns-in-Err-clause-kept : goal.returns-in-Err-clause-kept
returns-in-Err-clause-kept g c = λ J entry stands none call fault.
    let view = g.D.Disk.view in
    let faults = g.D.Disk.faults in
    let first = g.N.StoreName.first in
    let old = g.N.ClusterName.cluster.old in
    let asked : entry.call ≡ Exec c.site.inside.0 c.event.inside.0 =
    call ∙ ap (λ (i : ℕ). Exec i c.args.event) (sym c.site.view_is) ∙ ap (λ (e : ℕ). Exec c.site.inside.0 e) (sym c.event.view_is) in
    store_fault view faults old J entry none first c.in-On.tape c.append.new.self c.site.inside.0 c.event.inside.0 asked fault
    (record { images = c.append.ensures.any_moment; same = c.append.ensures.same.0 })
    (record { stopped = c.in-Err.ensures.stopped; no_fewer = c.in-Err.ensures.faults.0; rose = c.in-Err.ensures.faults.1 })
    (subst (λ s. StoreStands view faults first old J s) c.in-On.is stands)
