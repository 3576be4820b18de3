-- The sessions of a load: 20,000 calls, dealt out to 8 sessions in turn.
use Rattle.std.specs.Prelude.{ℕ, ◌+◌, ◌*◌, ◌%◌, ◌==◌, List, if◌then◌else◌}
use Rattle.dcr_journal.specs.declared.call.Call.{Call}
use Rattle.dcr_journal.specs.declared.call.Call.TheVariants.{Exec, Look, Enabled, Accepting}
use Rattle.dcr_load.specs.Each.{each_below}
use Rattle.dcr_load.specs.Words.{picked}

-- of twenty kinds one looks at the site, one asks what it may do, one asks whether all accepts, one executes the atom at
-- the site, which may not own it, and the rest execute it at the site of its number
unfoldable pub drawn_call : ℕ → ℕ → ℕ → Call
drawn_call kind atom site =
    if kind == 0 then Look site
    else if kind == 1 then Enabled site
    else if kind == 2 then Accepting
    else if kind == 3 then Exec site atom
    else Exec (atom % 12) atom

-- call j takes three words, behind those of the graph
abbrev pub call_at : ℕ → ℕ → Call
call_at number j = drawn_call (picked number (2000 + 3 * j) 20) (picked number (2001 + 3 * j) 200) (picked number (2002 + 3 * j) 12)

-- session k has every eighth call, from call k on
abbrev pub session_at : ℕ → ℕ → List Call
session_at number k = each_below 2500 (λ i. call_at number (8 * i + k))

abbrev pub load_sessions : ℕ → List (List Call)
load_sessions number = each_below 8 (session_at number)
