-- Reading outcomes and entries.
use Rattle.std.specs.Prelude.{◌≡◌, ◌↔◌, ℕ, ◌<◌, ◌^◌, List, [], ◌∷◌, length, codes, decimal, Option, Some, None, option_map, if◌then◌else◌}
use Rattle.std.specs.Str.{bytes_eq}
use Rattle.dcr_set.specs.Least.{least}
use Rattle.dcr_journal.specs.declared.call.Call.{Call}
use Rattle.dcr_journal.specs.declared.call.Call.TheVariants.{Exec, Look, Enabled, Accepting}
use Rattle.dcr_journal.specs.declared.call.Outcome.{Outcome}
use Rattle.dcr_journal.specs.declared.call.Outcome.TheVariants.{Done, NotHere, Excluded, Condition, Milestone, Faulted, Marks, Can, AllDone, Waits}
use Rattle.dcr_journal.specs.declared.call.Entry.{Entry}
use Rattle.dcr_line.specs.declared.entry.Head.{Head}
use Rattle.dcr_line.specs.Fits.{FitsEntry}
use Rattle.dcr_line.specs.Known.{AreNames}
use Rattle.dcr_line.specs.Line.{entry_text}
use Rattle.dcr_line.specs.Words.{◌>>=◌, words_of, Front, all_of, first_by, name_from}
use Rattle.dcr_line.specs.CallLine.{call_from}
use Rattle.dcr_line.specs.MarkLine.{list_from, mark_from}

-- the number of 32 bits whose decimal form the text is
unfoldable pub number_in : List ℕ → Option ℕ
number_in text = least (2 ^ 32) (λ n. bytes_eq (decimal n) text)

abbrev pub number_from : List (List ℕ) → Front ℕ
number_from words = first_by number_in words

-- an outcome that names an atom, behind its word
abbrev pub naming_from : (ℕ → Outcome) → List (List ℕ) → List (List ℕ) → Front Outcome
naming_from outcome names words = do
  event ← name_from names words
  Some (outcome event.0, event.1)

-- the outcome of an execution, by its word and the words behind it
unfoldable pub exec_outcome_after : List (List ℕ) → List ℕ → List (List ℕ) → Front Outcome
exec_outcome_after names word rest =
    if bytes_eq word (codes "done") then Some (Done, rest)
    else (if bytes_eq word (codes "not-here") then Some (NotHere, rest)
    else (if bytes_eq word (codes "excluded") then Some (Excluded, rest)
    else (if bytes_eq word (codes "condition") then naming_from Condition names rest
    else (if bytes_eq word (codes "milestone") then naming_from Milestone names rest
    else (if bytes_eq word (codes "faulted") then Some (Faulted, rest) else None)))))

abbrev pub exec_outcome_from : List (List ℕ) → List (List ℕ) → Front Outcome
exec_outcome_from names [] = None
exec_outcome_from names (word ∷ rest) = exec_outcome_after names word rest

-- the marks that a look is answered by
abbrev pub look_outcome_from : List (List ℕ) → List (List ℕ) → Front Outcome
look_outcome_from names words = do
  mark ← mark_from names words
  Some (Marks mark.0, mark.1)

-- the set that the question what is enabled is answered by
abbrev pub enabled_outcome_from : List (List ℕ) → List (List ℕ) → Front Outcome
enabled_outcome_from names words = do
  set ← list_from (codes "can") names words
  Some (Can set.0, set.1)

-- the verdict, by its word and the words behind it
unfoldable pub verdict_after : List (List ℕ) → List ℕ → List (List ℕ) → Front Outcome
verdict_after names word rest =
    if bytes_eq word (codes "yes") then Some (AllDone, rest)
    else (if bytes_eq word (codes "waits") then naming_from Waits names rest else None)

abbrev pub verdict_from : List (List ℕ) → List (List ℕ) → Front Outcome
verdict_from names [] = None
verdict_from names (word ∷ rest) = verdict_after names word rest

-- the outcome of a call, of its kind
abbrev pub outcome_from : List (List ℕ) → Call → List (List ℕ) → Front Outcome
outcome_from names (Exec i e) words = exec_outcome_from names words
outcome_from names (Look i) words = look_outcome_from names words
outcome_from names (Enabled i) words = enabled_outcome_from names words
outcome_from names Accepting words = verdict_from names words

-- the head of an entry: place, session, seq and call
unfoldable pub head_from : List (List ℕ) → List (List ℕ) → List (List ℕ) → Front Head
head_from sites names words = do
  place ← number_from words
  session ← number_from place.1
  seq ← number_from session.1
  call ← call_from sites names seq.1
  Some (record { place = place.0; session = session.0; seq = seq.0; call = call.0 }, call.1)

-- the head that a line begins with, whatever is behind it
abbrev pub head_in : List (List ℕ) → List (List ℕ) → List ℕ → Option Head
head_in sites names line = option_map (λ read. read.0) (head_from sites names (words_of line))

-- the entry with this head and this outcome
abbrev pub with_head : Head → Outcome → Entry
with_head head outcome = record { session = head.session; seq = head.seq; call = head.call; outcome = outcome }

-- an entry with its place: its head, and an outcome of the kind of its call
unfoldable pub entry_from : List (List ℕ) → List (List ℕ) → List (List ℕ) → Front (ℕ × Entry)
entry_from sites names words = do
  head ← head_from sites names words
  outcome ← outcome_from names head.0.call head.1
  Some ((head.0.place, with_head head.0 outcome.0), outcome.1)

-- the place and the entry that a line tells
unfoldable pub entry_in : List (List ℕ) → List (List ℕ) → List ℕ → Option (ℕ × Entry)
entry_in sites names line = all_of (entry_from sites names (words_of line))

-- an entry at a place that a line can tell: its numbers have 32 bits, and it fits the sites and the atoms
pub record IsToldEntry (sites atoms at : ℕ) (entry : Entry) : Type 0 where
  pub place : at < 2 ^ 32
  pub session : entry.session < 2 ^ 32
  pub seq : entry.seq < 2 ^ 32
  pub fits : FitsEntry sites atoms entry

-- a line is read as an entry at a place just where it is the text of them
abbrev pub EntryLinesAreRead : Type 0
EntryLinesAreRead = (sites names : List (List ℕ)) → AreNames sites → AreNames names → (line : List ℕ) (place : ℕ) (entry : Entry)
    → (entry_in sites names line ≡ Some (place, entry))
    ↔ (IsToldEntry (length sites) (length names) place entry × (line ≡ entry_text sites names place entry))

-- one text is that of one entry at one place
abbrev pub EntryTextsAreOne : Type 0
EntryTextsAreOne = (sites names : List (List ℕ)) → AreNames sites → AreNames names → (p q : ℕ) (a b : Entry)
    → IsToldEntry (length sites) (length names) p a → IsToldEntry (length sites) (length names) q b
    → entry_text sites names p a ≡ entry_text sites names q b → (p ≡ q) × (a ≡ b)
