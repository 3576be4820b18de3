-- Records: who has seen how much of the journal's list, and which entries concern whom.
use Rattle.std.specs.Prelude.{ℕ, zero, suc, ◌+◌, ◌==◌, Bool, true, false, if◌then◌else◌, nat_lt, List, [], ◌∷◌, ◌++◌, length, map, drop, slice_index_or}
use Rattle.dcr_set.specs.EventSet.{Set}
use Rattle.dcr_journal.specs.declared.call.Entry.{Entry}
use Rattle.dcr_turn.specs.declared.record.Holder.{Holder}
use Rattle.dcr_turn.specs.declared.record.Holder.TheVariants.{Journal, Site, Session}
use Rattle.dcr_turn.specs.declared.record.Record.{Record}
use Rattle.dcr_turn.specs.Covers.{is_heard, is_by}

-- which entries concern a holder: all of them the journal; those that it must hear of a site; its own ones a session
abbrev pub concerns : List Set → Holder → Entry → Bool
concerns alphabets Journal entry = true
concerns alphabets (Site i) entry = is_heard (slice_index_or alphabets i []) entry
concerns alphabets (Session k) entry = is_by k entry

-- the turn has one journal, these sites and these sessions
abbrev pub is_of_turn : List Set → ℕ → Holder → Bool
is_of_turn alphabets sessions Journal = true
is_of_turn alphabets sessions (Site i) = nat_lt i (length alphabets)
is_of_turn alphabets sessions (Session k) = nat_lt k sessions

-- whether two holders are one
abbrev pub same : Holder → Holder → Bool
same Journal Journal = true
same Journal (Site i) = false
same Journal (Session k) = false
same (Site i) Journal = false
same (Site i) (Site j) = i == j
same (Site i) (Session k) = false
same (Session k) Journal = false
same (Session k) (Site i) = false
same (Session k) (Session l) = k == l

-- 1 for what holds
abbrev pub once : Bool → ℕ
once b = if b then 1 else 0

-- how often a holder stands among the records
abbrev pub times : Holder → List Record → ℕ
times x [] = 0
times x (r ∷ rs) = once (same x r.holder) + times x rs

-- and how often in all views
abbrev pub standing : Holder → List (List Record) → ℕ
standing x [] = 0
standing x (v ∷ vs) = times x v + standing x vs

-- the record of a holder that has seen these entries
abbrev pub knowing : List Entry → Holder → Record
knowing seen x = record { holder = x; seen = seen }

-- the record, where its holder has seen these entries
abbrev pub told : List Entry → Record → Record
told seen r = knowing seen r.holder

-- the list of the first record
abbrev pub first_seen : List Record → List Entry
first_seen [] = []
first_seen (r ∷ rs) = r.seen

-- the records of so many sites, and of so many sessions, from this number on, which have seen nothing
abbrev pub sites_from : ℕ → ℕ → List Record
sites_from i zero = []
sites_from i (suc n) = knowing [] (Site i) ∷ sites_from (i + 1) n

abbrev pub sessions_from : ℕ → ℕ → List Record
sessions_from k zero = []
sessions_from k (suc n) = knowing [] (Session k) ∷ sessions_from (k + 1) n

-- the records of all
abbrev pub everyone : ℕ → ℕ → List Record
everyone sites sessions = knowing [] Journal ∷ sites_from 0 sites ++ sessions_from 0 sessions

-- the records of the journal and of so many sessions, from this number on, which have seen nothing
abbrev pub journal_and_sessions : ℕ → ℕ → List Record
journal_and_sessions k n = knowing [] Journal ∷ sessions_from k n

-- without the first record of the holder
abbrev pub without : Holder → List Record → List Record
without x [] = []
without x (r ∷ rs) = if same x r.holder then rs else r ∷ without x rs

-- the first record of the holder alone
abbrev pub only : Holder → List Record → List Record
only x [] = []
only x (r ∷ rs) = if same x r.holder then r ∷ [] else only x rs

-- the number of a site
abbrev pub site_number : Holder → ℕ
site_number Journal = 0
site_number (Site i) = i
site_number (Session k) = 0

-- the sites whose records come behind the first one
abbrev pub sites_in : List Record → List ℕ
sites_in records = map (λ (r : Record). site_number r.holder) (drop 1 records)

-- the journal's record and those of the sites, all of which have seen the list
abbrev pub all_know : List Entry → List ℕ → List Record
all_know J sites = knowing J Journal ∷ map (λ i. knowing J (Site i)) sites
