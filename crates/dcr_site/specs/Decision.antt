-- What a site decides of an event, and for which of its events it waits.
use Rattle.std.specs.Prelude.{ℕ, ◌&&◌, Option, Some, None, if◌then◌else◌}
use Rattle.dcr_set.specs.Least.{least}
use Rattle.dcr_set.specs.EventSet.{Set, has}
use Rattle.dcr_graph.specs.Rules.{Rules}
use Rattle.dcr_graph.specs.Cause.{cause}
use Rattle.dcr_graph.specs.declared.kind.Cause.{Cause}
use Rattle.dcr_graph.specs.declared.marking.Marking.{Marking}
use Rattle.dcr_site.specs.declared.site.Decision.{Decision}
use Rattle.dcr_site.specs.declared.site.Decision.TheVariants.{NotHere, Blocked, Enabled}

abbrev pub by_cause : Option Cause → Decision
by_cause None = Enabled
by_cause (Some why) = Blocked why

-- not here where the event isn't owned, else blocked by its cause, else enabled
abbrev pub decision : Rules → Set → Marking → ℕ → Decision
decision G S M e = if has S e then by_cause (cause G M e) else NotHere

-- the least owned atom that is included and pending
abbrev pub owned_waits : Rules → Set → Marking → Option ℕ
owned_waits G S M = least G.atoms (λ a. has S a && (has M.included a && has M.pending a))
