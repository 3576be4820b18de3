-- Reading lists and marks.
use Rattle.std.specs.Prelude.{◌≡◌, ◌↔◌, ℕ, ◌+◌, Bool, true, ◌&&◌, ◌==◌, nat_le, List, [], ◌∷◌, length, codes, Option, Some, None, if◌then◌else◌}
use Rattle.std.specs.List.{list_any}
use Rattle.std.specs.Str.{bytes_eq}
use Rattle.dcr_set.specs.EventSet.{Set, no_event, those}
use Rattle.dcr_graph.specs.Names.{number_of}
use Rattle.dcr_graph.specs.Projection.{FitsAtoms}
use Rattle.dcr_graph.specs.declared.marking.SiteMark.{SiteMark}
use Rattle.dcr_line.specs.Known.{AreNames}
use Rattle.dcr_line.specs.Line.{mark_text}
use Rattle.dcr_text.specs.Lines.{pieces_of}
use Rattle.dcr_line.specs.Words.{◌>>=◌, words_of, Front, all_of, first_by, words_behind}

-- each of a list read, and none where one can't be
abbrev pub each : {A B : Type 0} → (A → Option B) → List A → Option (List B)
each read [] = Some []
each read (x ∷ xs) = read x >>= λ y. each read xs >>= λ ys. Some (y ∷ ys)

-- the first is at least low, and each other above the one before it
abbrev pub ascends_from : ℕ → List ℕ → Bool
ascends_from low [] = true
ascends_from low (e ∷ events) = nat_le low e && ascends_from (e + 1) events

-- the set of these atoms, of so many
abbrev pub set_numbered : ℕ → List ℕ → Set
set_numbered atoms events = those atoms (λ k. list_any (λ e. k == e) events)

-- the set of the atoms whose names stand between commas, in ascending order
unfoldable pub listed_in : List (List ℕ) → List ℕ → Option Set
listed_in names text = do
  events ← each (number_of names) (pieces_of 44 text)
  if ascends_from 0 events then Some (set_numbered (length names) events) else None

-- the set that a list is; `-` is the empty one
unfoldable pub list_in : List (List ℕ) → List ℕ → Option Set
list_in names text = if bytes_eq text (codes "-") then Some (no_event (length names)) else listed_in names text

-- a list behind its word
unfoldable pub list_from : List ℕ → List (List ℕ) → List (List ℕ) → Front Set
list_from known names words = do
  rest ← words_behind known words
  first_by (list_in names) rest

-- the three lists of marks, each behind its word
unfoldable pub mark_from : List (List ℕ) → List (List ℕ) → Front SiteMark
mark_from names words = do
  executed ← list_from (codes "executed") names words
  pending ← list_from (codes "pending") names executed.1
  included ← list_from (codes "included") names pending.1
  Some (record { executed = executed.0; pending = pending.0; included = included.0 }, included.1)

-- the marks that a text is
unfoldable pub mark_in : List (List ℕ) → List ℕ → Option SiteMark
mark_in names text = all_of (mark_from names (words_of text))

-- a text is read as marks just where it is the text of them, and their sets are of these atoms
abbrev pub MarksAreRead : Type 0
MarksAreRead = (names : List (List ℕ)) → AreNames names → (text : List ℕ) (mark : SiteMark)
    → (mark_in names text ≡ Some mark)
    ↔ (FitsAtoms (length names) mark.executed mark.pending mark.included × (text ≡ mark_text names mark.executed mark.pending mark.included))

-- ---- for private clauses

-- a number that was found, where it is at least low
abbrev pub from_low : ℕ → Option ℕ → Option ℕ
from_low low None = None
from_low low (Some e) = if nat_le low e then Some e else None
