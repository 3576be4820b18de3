use Rattle.std.proofs.Common.{◌≡◌, true, false, ◌∙◌, sym, refl, ap}
use Rattle.dcr_cell.specs.Keeping.{as_found, kept_as}
use Rattle.dcr_cell.proofs.StoreLemmas.{stands_as_found, stands_as_kept}
use Rattle.dcr_cell.proofs.kept.Kept.tell.Goals as goal

pub returns-then-not-keep-clause-kept : goal.returns-then-not-keep-clause-kept
returns-then-not-keep-clause-kept g c = λ J entry stands none is_call asked seq is told.
    let failed : c.keep.result ≡ false = cc in
    let as_kept = told ∙ c.tell_fault.ensures ∙ ap kept_as (sym failed) in
    stands_as_kept g.D.Disk.view g.D.Disk.faults g.N.StoreName.first g.N.ClusterName.cluster J entry c.args.self.now.store c.args.call.now c.args.told.now stands none is_call asked seq is
    c.keep.new.self.store c.keep.result c.in-Done.is (c.keep.ensures.told J stands.stored) as_kept (c.keep.ensures.kept J entry stands.stored none (asked ∙ c.in-Exec.is) as_kept)

pub returns-else-not-keep-clause-kept : goal.returns-else-not-keep-clause-kept
returns-else-not-keep-clause-kept g c = λ J entry stands none is_call asked seq is told.
    let kept : c.keep.result ≡ true = cc in
    let as_kept = told ∙ c.in-Done.is ∙ ap kept_as (sym kept) in
    stands_as_kept g.D.Disk.view g.D.Disk.faults g.N.StoreName.first g.N.ClusterName.cluster J entry c.args.self.now.store c.args.call.now c.args.told.now stands none is_call asked seq is
    c.keep.new.self.store c.keep.result c.in-Done.is (c.keep.ensures.told J stands.stored) as_kept (c.keep.ensures.kept J entry stands.stored none (asked ∙ c.in-Exec.is) as_kept)

pub returns-in_default-told : goal.returns-in_default-told
returns-in_default-told g c = record {
  told = λ J stands. as_found refl;
  kept = λ J entry stands none is_call asked seq is told.
      stands_as_found g.D.Disk.view g.D.Disk.faults g.N.StoreName.first g.N.ClusterName.cluster J entry c.args.self.now.store c.args.call.now c.args.told.now stands none is_call asked seq is
      (λ i e _ done. c.in_default-told.not-Done done) told;
}

pub returns-in_default : goal.returns-in_default
returns-in_default g c = record {
  told = λ J stands. as_found refl;
  kept = λ J entry stands none is_call asked seq is told.
      stands_as_found g.D.Disk.view g.D.Disk.faults g.N.StoreName.first g.N.ClusterName.cluster J entry c.args.self.now.store c.args.call.now c.args.told.now stands none is_call asked seq is
      (λ i e execution _. c.in_default.not-Exec i e execution) told;
}
