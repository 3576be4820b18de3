-- What the graph answers to a call at a marking.
use Rattle.std.specs.Prelude.{ℕ, List, Option, Some, None, if◌then◌else◌}
use Rattle.dcr_set.specs.EventSet.{Set, has}
use Rattle.dcr_graph.specs.Rules.{Rules}
use Rattle.dcr_graph.specs.Rows.{row}
use Rattle.dcr_graph.specs.Cause.{cause, enabled_in, waits}
use Rattle.dcr_graph.specs.Projection.{project}
use Rattle.dcr_graph.specs.declared.kind.Cause.{Cause}
use Rattle.dcr_graph.specs.declared.kind.Cause.TheVariants as why
use Rattle.dcr_graph.specs.declared.marking.Marking.{Marking}
use Rattle.dcr_site.specs.declared.site.Decision.{Decision}
use Rattle.dcr_site.specs.declared.site.Decision.TheVariants as decided
use Rattle.dcr_journal.specs.declared.call.Call.{Call}
use Rattle.dcr_journal.specs.declared.call.Call.TheVariants.{Exec, Look, Enabled, Accepting}
use Rattle.dcr_journal.specs.declared.call.Outcome.{Outcome}
use Rattle.dcr_journal.specs.declared.call.Outcome.TheVariants.{Done, NotHere, Excluded, Condition, Milestone, Marks, Can, AllDone, Waits}

-- the outcome that tells the cause; an event without one is executed
abbrev pub outcome_of : Option Cause → Outcome
outcome_of None = Done
outcome_of (Some why.Excluded) = Excluded
outcome_of (Some (why.Condition c)) = Condition c
outcome_of (Some (why.Milestone m)) = Milestone m

-- the outcome that tells what a site decides, where the event is executed if it is enabled
abbrev pub outcome_decided : Decision → Outcome
outcome_decided decided.NotHere = NotHere
outcome_decided decided.Enabled = Done
outcome_decided (decided.Blocked why) = outcome_of (Some why)

-- the verdict: the atom that is waited for, or all done where there is none
abbrev pub verdict_of : Option ℕ → Outcome
verdict_of None = AllDone
verdict_of (Some a) = Waits a

-- The answer over the rules G and the owned sets C at the marking M. To an execution: not here where the site
-- doesn't own the event, else the cause that blocks it, else done. To a look: the site's projection of M. To the
-- question what is enabled: the enabled atoms that the site owns. To the question whether M is accepting: the verdict.
abbrev pub answer : Rules → List Set → Marking → Call → Outcome
answer G C M (Exec i e) = if has (row C i) e then outcome_of (cause G M e) else NotHere
answer G C M (Look i) = Marks (project G (row C i) M)
answer G C M (Enabled i) = Can (enabled_in G (row C i) M)
answer G C M Accepting = verdict_of (waits G.atoms M)
