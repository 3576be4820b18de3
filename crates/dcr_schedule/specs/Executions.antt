-- The executions that sessions ask for.
use Rattle.std.specs.Prelude.{ℕ, Bool, true, false, List, map, filter}
use Rattle.dcr_journal.specs.declared.call.Call.{Call}
use Rattle.dcr_journal.specs.declared.call.Call.TheVariants.{Exec}

-- the call is an execution
abbrev pub is_exec : Call → Bool
is_exec (Exec i e) = true
is_exec call = false

-- the executions of each session, in order
abbrev pub exec_calls : List (List Call) → List (List Call)
exec_calls sessions = map (filter is_exec) sessions

-- those of one session, with its number
abbrev pub executions_of : ℕ → List Call → List (ℕ × Call)
executions_of session calls = map (λ call. (session, call)) (filter is_exec calls)
