-- The command that the words of the command line spell.
use Rattle.std.specs.Prelude.{ℕ, ◌<◌, ◌≤◌, ◌+◌, nat_le, ◌&&◌, Bool, true, false, List, [], ◌∷◌, map, codes, decimal, String, string_bytes, Option, Some, None, option_and_then, option_map, if◌then◌else◌}
use Rattle.std.specs.Str.{bytes_eq}
use Rattle.std.specs.declared.alloc.Global.{Global}
use Rattle.dcr_set.specs.Least.{least}
use Rattle.dcr_app.specs.declared.command.Command.{Command}
use Rattle.dcr_app.specs.declared.command.Command.TheVariants.{Load, Read}
use Rattle.dcr_app.specs.declared.command.Reading.{Reading}
use Rattle.dcr_app.specs.declared.command.Reading.TheVariants.{Execute, Replay, Nodes, Conform, Adapt, Part}
use Rattle.dcr_app.specs.declared.command.Way.{Way}
use Rattle.dcr_app.specs.declared.command.Way.TheVariants.{Run, Serve}

-- the number from the first to the second that a word spells in decimal
unfoldable pub number_in : ℕ → ℕ → List ℕ → Option ℕ
number_in first last word = least (last + 1) (λ n. nat_le first n && bytes_eq (decimal n) word)

-- ---- what may stand behind the first word

-- a word and a number from 1 to this one: the number, and the words behind it
abbrev pub number_behind : List ℕ → ℕ → List (List ℕ) → Option (ℕ × List (List ℕ))
number_behind name most (word ∷ number ∷ rest) = if bytes_eq word name then option_map (λ n. (n, rest)) (number_in 1 most number) else None
number_behind name most words = None

-- `--workers` and a number, or nothing, for one worker
abbrev pub workers_in : List (List ℕ) → Option (ℕ × List (List ℕ))
workers_in [] = Some (1, [])
workers_in (word ∷ rest) = if bytes_eq word (codes "--workers") then number_behind (codes "--workers") 64 (word ∷ rest) else Some (1, word ∷ rest)

-- `--store` or nothing, and no more
abbrev pub store_in : List (List ℕ) → Option Bool
store_in [] = Some false
store_in (word ∷ []) = if bytes_eq word (codes "--store") then Some true else None
store_in words = None

-- the execution of a case in a way, with a store or without one
abbrev pub executed : Way → Option Bool → Option Command
executed way None = None
executed way (Some store) = Some (Read (Execute way store))

abbrev pub run_with : List (List ℕ) → Option Command
run_with words = option_and_then (λ (workers : ℕ × List (List ℕ)). executed (Run workers.0) (store_in workers.1)) (workers_in words)

abbrev pub serve_with : List (List ℕ) → Option Command
serve_with words = option_and_then (λ (sessions : ℕ × List (List ℕ)).
    option_and_then (λ (workers : ℕ × List (List ℕ)). executed (Serve sessions.0 workers.0) (store_in workers.1)) (number_behind (codes "--workers") 64 sessions.1))
    (number_behind (codes "--sessions") 1024 words)

-- the number of a case that is made, or of a network, and no more
abbrev pub number_alone : List (List ℕ) → Option ℕ
number_alone (number ∷ []) = number_in 0 4294967295 number
number_alone words = None

-- nothing stands behind the word
abbrev pub alone : Reading → List (List ℕ) → Option Command
alone reading [] = Some (Read reading)
alone reading words = None

-- the word that names a site, and no more
abbrev pub part_with : List (List ℕ) → Option Command
part_with (site ∷ []) = Some (Read (Part site))
part_with words = None

-- the command that these texts spell
abbrev pub command_spelled : List (List ℕ) → Option Command
command_spelled [] = None
command_spelled (word ∷ rest) =
    if bytes_eq word (codes "run") then run_with rest
    else (if bytes_eq word (codes "serve") then serve_with rest
    else (if bytes_eq word (codes "replay") then alone Replay rest
    else (if bytes_eq word (codes "load") then option_map (λ number. Load number) (number_alone rest)
    else (if bytes_eq word (codes "nodes") then option_map (λ number. Read (Nodes number)) (number_alone rest)
    else (if bytes_eq word (codes "conform") then alone Conform rest
    else (if bytes_eq word (codes "adapt") then alone Adapt rest
    else (if bytes_eq word (codes "part") then part_with rest else None)))))))

abbrev pub command_in : List (String Global) → Option Command
command_in words = command_spelled (map string_bytes words)

-- 1 to 64 workers and 1 to 1,024 sessions
abbrev pub AreWorkers : ℕ → Type 0
AreWorkers workers = (0 < workers) × (workers ≤ 64)

abbrev pub AreSessions : ℕ → Type 0
AreSessions sessions = (0 < sessions) × (sessions ≤ 1024)

abbrev pub IsWay : Way → Type 0
IsWay (Run workers) = AreWorkers workers
IsWay (Serve sessions workers) = AreSessions sessions × AreWorkers workers

-- the numbers of a command are within their limits
abbrev pub HasNumbers : Command → Type 0
HasNumbers (Read (Execute way store)) = IsWay way
HasNumbers command = Unit {0}
