-- The texts of calls, lists, marks, outcomes and entries. A text is its words with one space between each two.
-- Sites and atoms are shown by their names, which these words take as two lists.
use Rattle.std.specs.Prelude.{ℕ, List, [], ◌∷◌, ◌++◌, codes, decimal, slice_index_or}
use Rattle.std.specs.List.{join_with_byte}
use Rattle.dcr_set.specs.EventSet.{Set, numbers}
use Rattle.dcr_graph.specs.Names.{comma_names}
use Rattle.dcr_journal.specs.declared.call.Call.{Call}
use Rattle.dcr_journal.specs.declared.call.Call.TheVariants.{Exec, Look, Enabled, Accepting}
use Rattle.dcr_journal.specs.declared.call.Outcome.{Outcome}
use Rattle.dcr_journal.specs.declared.call.Outcome.TheVariants.{Done, NotHere, Excluded, Condition, Milestone, Faulted, Marks, Can, AllDone, Waits}
use Rattle.dcr_journal.specs.declared.call.Entry.{Entry}

-- the words with one space between each two
abbrev pub spaced : List (List ℕ) → List ℕ
spaced words = join_with_byte 32 words

-- the name of a site or an atom by its number
abbrev pub name_of : List (List ℕ) → ℕ → List ℕ
name_of names k = slice_index_or names k []

-- the names of these atoms with one comma between each two; `-` where there is none
abbrev pub names_text : List (List ℕ) → List ℕ → List ℕ
names_text names [] = codes "-"
names_text names (e ∷ events) = name_of names e ++ comma_names names events

-- the names of the atoms in a set, ascending by their numbers
abbrev pub list_text : List (List ℕ) → Set → List ℕ
list_text names set = names_text names (numbers set)

-- the three sets of a marking, or of the marks of a site
abbrev pub mark_words : List (List ℕ) → Set → Set → Set → List (List ℕ)
mark_words names executed pending included =
    codes "executed" ∷ list_text names executed ∷ codes "pending" ∷ list_text names pending
    ∷ codes "included" ∷ list_text names included ∷ []

abbrev pub mark_text : List (List ℕ) → Set → Set → Set → List ℕ
mark_text names executed pending included = spaced (mark_words names executed pending included)

abbrev pub call_words : List (List ℕ) → List (List ℕ) → Call → List (List ℕ)
call_words sites names (Exec i e) = codes "exec" ∷ name_of sites i ∷ name_of names e ∷ []
call_words sites names (Look i) = codes "look" ∷ name_of sites i ∷ []
call_words sites names (Enabled i) = codes "enabled" ∷ name_of sites i ∷ []
call_words sites names Accepting = codes "accepting" ∷ []

abbrev pub call_text : List (List ℕ) → List (List ℕ) → Call → List ℕ
call_text sites names call = spaced (call_words sites names call)

abbrev pub outcome_words : List (List ℕ) → Outcome → List (List ℕ)
outcome_words names Done = codes "done" ∷ []
outcome_words names NotHere = codes "not-here" ∷ []
outcome_words names Excluded = codes "excluded" ∷ []
outcome_words names (Condition e) = codes "condition" ∷ name_of names e ∷ []
outcome_words names (Milestone e) = codes "milestone" ∷ name_of names e ∷ []
outcome_words names Faulted = codes "faulted" ∷ []
outcome_words names (Marks mark) = mark_words names mark.executed mark.pending mark.included
outcome_words names (Can set) = codes "can" ∷ list_text names set ∷ []
outcome_words names AllDone = codes "yes" ∷ []
outcome_words names (Waits e) = codes "waits" ∷ name_of names e ∷ []

abbrev pub outcome_text : List (List ℕ) → Outcome → List ℕ
outcome_text names outcome = spaced (outcome_words names outcome)

-- an entry with its place: place, session, seq, call and outcome
abbrev pub entry_words : List (List ℕ) → List (List ℕ) → ℕ → Entry → List (List ℕ)
entry_words sites names place entry =
    decimal place ∷ decimal entry.session ∷ decimal entry.seq
    ∷ (call_words sites names entry.call ++ outcome_words names entry.outcome)

abbrev pub entry_text : List (List ℕ) → List (List ℕ) → ℕ → Entry → List ℕ
entry_text sites names place entry = spaced (entry_words sites names place entry)
