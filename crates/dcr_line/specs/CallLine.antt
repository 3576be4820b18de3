-- Reading a call.
use Rattle.std.specs.Prelude.{◌≡◌, ◌↔◌, ℕ, List, [], ◌∷◌, length, codes, Option, Some, None, if◌then◌else◌}
use Rattle.std.specs.Str.{bytes_eq}
use Rattle.dcr_journal.specs.Run.{IsInRange}
use Rattle.dcr_journal.specs.declared.call.Call.{Call}
use Rattle.dcr_journal.specs.declared.call.Call.TheVariants.{Exec, Look, Enabled, Accepting}
use Rattle.dcr_line.specs.Known.{AreNames}
use Rattle.dcr_line.specs.Line.{call_text}
use Rattle.dcr_line.specs.Words.{◌>>=◌, words_of, Front, all_of, name_from}

-- an execution, behind its word: a site and an event
abbrev pub exec_from : List (List ℕ) → List (List ℕ) → List (List ℕ) → Front Call
exec_from sites names words = do
  site ← name_from sites words
  event ← name_from names site.1
  Some (Exec site.0 event.0, event.1)

-- a call that asks about a site, behind its word
abbrev pub asked_from : (ℕ → Call) → List (List ℕ) → List (List ℕ) → Front Call
asked_from ask sites words = do
  site ← name_from sites words
  Some (ask site.0, site.1)

-- the call that the first word and the words behind it begin with
unfoldable pub call_after : List (List ℕ) → List (List ℕ) → List ℕ → List (List ℕ) → Front Call
call_after sites names word rest =
    if bytes_eq word (codes "exec") then exec_from sites names rest
    else (if bytes_eq word (codes "look") then asked_from Look sites rest
    else (if bytes_eq word (codes "enabled") then asked_from Enabled sites rest
    else (if bytes_eq word (codes "accepting") then Some (Accepting, rest) else None)))

abbrev pub call_from : List (List ℕ) → List (List ℕ) → List (List ℕ) → Front Call
call_from sites names [] = None
call_from sites names (word ∷ rest) = call_after sites names word rest

-- the call that a line asks for: `exec` with a site and an event, `look` or `enabled` with a site, or `accepting`,
-- one space between each two words and nothing else
unfoldable pub call_in : List (List ℕ) → List (List ℕ) → List ℕ → Option Call
call_in sites names line = all_of (call_from sites names (words_of line))

-- a line is read as a call just where it is the call's text, and the call is one of these sites and atoms
abbrev pub CallLinesAreRead : Type 0
CallLinesAreRead = (sites names : List (List ℕ)) → AreNames sites → AreNames names → (line : List ℕ) (call : Call)
    → (call_in sites names line ≡ Some call) ↔ (IsInRange (length sites) (length names) call × (line ≡ call_text sites names call))
