-- Why an atom can't be executed at a marking, which atoms can, and what a marking waits for.
use Rattle.std.specs.Prelude.{ℕ, Bool, not, ◌&&◌, Option, Some, is_none, option_map, if◌then◌else◌}
use Rattle.std.specs.Option.{option_or}
use Rattle.dcr_set.specs.Least.{least}
use Rattle.dcr_set.specs.EventSet.{Set, has, those}
use Rattle.dcr_graph.specs.Rules.{Rules}
use Rattle.dcr_graph.specs.declared.kind.Kind.TheVariants as kind
use Rattle.dcr_graph.specs.declared.kind.Cause.{Cause}
use Rattle.dcr_graph.specs.declared.kind.Cause.TheVariants.{Excluded, Condition, Milestone}
use Rattle.dcr_graph.specs.declared.marking.Marking.{Marking}

-- c is a condition event of e that is included and not executed
abbrev pub is_open_condition : Rules → Marking → ℕ → ℕ → Bool
is_open_condition G M e c = G.related kind.Condition c e && (has M.included c && not (has M.executed c))

-- m is a milestone event of e that is included and pending
abbrev pub is_pending_milestone : Rules → Marking → ℕ → ℕ → Bool
is_pending_milestone G M e m = G.related kind.Milestone m e && (has M.included m && has M.pending m)

-- the cause that blocks e, the first that holds: excluded; the least open condition; the least pending milestone
abbrev pub cause : Rules → Marking → ℕ → Option Cause
cause G M e = if has M.included e
    then option_or (option_map Condition (least G.atoms (is_open_condition G M e))) (option_map Milestone (least G.atoms (is_pending_milestone G M e)))
    else Some Excluded

-- a is an atom of S that no cause blocks
abbrev pub is_enabled_in : Rules → Set → Marking → ℕ → Bool
is_enabled_in G S M a = has S a && is_none (cause G M a)

-- the enabled atoms of S
abbrev pub enabled_in : Rules → Set → Marking → Set
enabled_in G S M = those G.atoms (is_enabled_in G S M)

-- the least atom that is included and pending; the marking is accepting where there is none
abbrev pub waits : ℕ → Marking → Option ℕ
waits atoms M = least atoms (λ a. has M.included a && has M.pending a)
