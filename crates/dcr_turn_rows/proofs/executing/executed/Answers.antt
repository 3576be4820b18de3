use Rattle.std.proofs.Common.{ap, ◌∙◌}
use Rattle.dcr_turn.specs.GuardValue.{GuardValue}
use Rattle.dcr_turn_rows.specs.declared.executing.NoFault.{NoFault}
use Rattle.dcr_turn_rows.proofs.Owning.{ends_without_fault, no_fault_more}
use Rattle.dcr_turn_rows.proofs.executing.executed.Goals as goal

pub push-requires-clause-unfaulted : goal.push-requires-clause-unfaulted
push-requires-clause-unfaulted g c =
    ends_without_fault c.lock-guard.result.entries c.enlist_row.new.self.entries
    (ap (λ (guard : GuardValue NoFault). guard.entries) c.enlist_row.ensures.enlisted ∙ ap (λ (guard : GuardValue NoFault). guard.entries) c.meet.ensures.same)
    c.lock-guard.ensures.kept

pub unlock-requires-2-clause-kept : goal.unlock-requires-2-clause-kept
unlock-requires-2-clause-kept g c =
    no_fault_more c.lock-guard.result.entries c.enlist_row.new.self.entries c.dismiss_row.new.self.entries _
    (ap (λ (guard : GuardValue NoFault). guard.entries) c.enlist_row.ensures.enlisted ∙ ap (λ (guard : GuardValue NoFault). guard.entries) c.meet.ensures.same)
    c.lock-guard.ensures.kept
    (ap (λ (guard : GuardValue NoFault). guard.entries) c.dismiss_row.ensures.enlisted ∙ ap (λ (guard : GuardValue NoFault). guard.entries) c.push.ensures.entries)
    (λ is. absurd (cc))
