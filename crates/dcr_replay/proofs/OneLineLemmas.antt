-- No line of a report has a line end in it.
use Rattle.std.proofs.Common.{◌≡◌, inl, inr, ℕ, ◌+◌, ◌<◌, ◌≤◌, ◌^◌, true, not, eqb, ◌&&◌, List, [], ◌∷◌, ◌++◌, length, codes, Option, Some, None, refl, ap, ◌∙◌, arith}
use Rattle.std.specs.List.{All, list_all}
use Rattle.std.proofs.lemmas.Bool.{and_parts, cases_lt, ne_eqb}
use Rattle.std.proofs.lemmas.List.{get_or_past}
use Rattle.std.proofs.lemmas.List.Elements.{All-head, All-tail}
use Rattle.std.proofs.lemmas.List.Folds.{list_all-append}
use Rattle.dcr_set.specs.EventSet.{Set, numbers}
use Rattle.dcr_graph.specs.Names.{comma_names, is_name}
use Rattle.dcr_graph.specs.declared.marking.SiteMark.{SiteMark}
use Rattle.dcr_journal.specs.declared.call.Call.{Call}
use Rattle.dcr_journal.specs.declared.call.Call.TheVariants.{Exec, Look, Enabled, Accepting}
use Rattle.dcr_journal.specs.declared.call.Outcome.{Outcome}
use Rattle.dcr_journal.specs.declared.call.Outcome.TheVariants.{Done, NotHere, Excluded, Condition, Milestone, Faulted, Marks, Can, AllDone, Waits}
use Rattle.dcr_journal.specs.declared.call.Entry.{Entry}
use Rattle.dcr_line.specs.Line.{spaced, name_of, names_text, list_text, mark_words, mark_text, call_words, outcome_words, entry_words, entry_text}
use Rattle.dcr_line.proofs.NameLemmas.{name_lacks}
use Rattle.dcr_line.proofs.NumberLemmas.{decimal_lacks}
use Rattle.dcr_line.proofs.PiecesLemmas.{lacks}
use Rattle.dcr_format.specs.Texts.{IsOneLine}
use Rattle.dcr_format.specs.Texts.{AreAllNames}
use Rattle.dcr_report.specs.Report.{entry_lines, site_text, site_lines, verdict_text, end_lines}

-- what the laws of canonical texts say, as a test
pub one_line : (text : List ℕ) → IsOneLine text → lacks 10 text ≡ true
one_line [] h = refl
one_line (b ∷ bs) h = rw (ne_eqb b 10 (All-head (λ byte. byte ≡ 10 → ⊥) b bs h)) (one_line bs (All-tail (λ byte. byte ≡ 10 → ⊥) b bs h))

pub both : (xs ys : List ℕ) → lacks 10 xs ≡ true → lacks 10 ys ≡ true → lacks 10 (xs ++ ys) ≡ true
both xs ys h k = list_all-append (λ byte. not (eqb byte 10)) xs ys ∙ ap (λ t. t && lacks 10 ys) h ∙ k

pub each : (xs ys : List (List ℕ)) → list_all (lacks 10) xs ≡ true → list_all (lacks 10) ys ≡ true → list_all (lacks 10) (xs ++ ys) ≡ true
each xs ys h k = list_all-append (lacks 10) xs ys ∙ ap (λ t. t && list_all (lacks 10) ys) h ∙ k

joined : (words : List (List ℕ)) → list_all (lacks 10) words ≡ true → lacks 10 (spaced words) ≡ true
joined [] h = refl
joined (word ∷ []) h = (and_parts _ _ h).0
joined (word ∷ (next ∷ words)) h = let parts = and_parts _ _ h in both word (32 ∷ spaced (next ∷ words)) parts.0 (joined (next ∷ words) parts.1)

name_part : (names : List (List ℕ)) → AreAllNames names → (k : ℕ) → lacks 10 (name_of names k) ≡ true
name_part names are k = elim (cases_lt k (length names)) [
  | inl within ↦ name_lacks 10 (name_of names k) refl (are k [] within)
  | inr past ↦ ap (lacks 10) (get_or_past names k [] past)
]

comma_part : (names : List (List ℕ)) → AreAllNames names → (events : List ℕ) → lacks 10 (comma_names names events) ≡ true
comma_part names are [] = refl
comma_part names are (e ∷ events) = both (44 ∷ name_of names e) (comma_names names events) (name_part names are e) (comma_part names are events)

names_part : (names : List (List ℕ)) → AreAllNames names → (events : List ℕ) → lacks 10 (names_text names events) ≡ true
names_part names are [] = refl
names_part names are (e ∷ events) = both (name_of names e) (comma_names names events) (name_part names are e) (comma_part names are events)

list_part : (names : List (List ℕ)) → AreAllNames names → (set : Set) → lacks 10 (list_text names set) ≡ true
list_part names are set = names_part names are (numbers set)

mark_parts : (names : List (List ℕ)) → AreAllNames names → (executed pending included : Set) → list_all (lacks 10) (mark_words names executed pending included) ≡ true
mark_parts names are executed pending included = rw (list_part names are executed) (rw (list_part names are pending) (rw (list_part names are included) refl))

pub mark_part : (names : List (List ℕ)) → AreAllNames names → (executed pending included : Set) → lacks 10 (mark_text names executed pending included) ≡ true
mark_part names are executed pending included = joined (mark_words names executed pending included) (mark_parts names are executed pending included)

call_parts : (sites names : List (List ℕ)) → AreAllNames sites → AreAllNames names → (call : Call) → list_all (lacks 10) (call_words sites names call) ≡ true
call_parts sites names are_sites are_names (Exec i e) = rw (name_part sites are_sites i) (rw (name_part names are_names e) refl)
call_parts sites names are_sites are_names (Look i) = rw (name_part sites are_sites i) refl
call_parts sites names are_sites are_names (Enabled i) = rw (name_part sites are_sites i) refl
call_parts sites names are_sites are_names Accepting = refl

outcome_parts : (names : List (List ℕ)) → AreAllNames names → (outcome : Outcome) → list_all (lacks 10) (outcome_words names outcome) ≡ true
outcome_parts names are Done = refl
outcome_parts names are NotHere = refl
outcome_parts names are Excluded = refl
outcome_parts names are (Condition e) = rw (name_part names are e) refl
outcome_parts names are (Milestone e) = rw (name_part names are e) refl
outcome_parts names are Faulted = refl
outcome_parts names are (Marks mark) = mark_parts names are mark.executed mark.pending mark.included
outcome_parts names are (Can set) = rw (list_part names are set) refl
outcome_parts names are AllDone = refl
outcome_parts names are (Waits e) = rw (name_part names are e) refl

entry_part : (sites names : List (List ℕ)) → AreAllNames sites → AreAllNames names → (place : ℕ) (entry : Entry) → place < 2 ^ 32 → entry.session < 2 ^ 32 → entry.seq < 2 ^ 32
    → lacks 10 (entry_text sites names place entry) ≡ true
entry_part sites names are_sites are_names place entry at session seq = joined (entry_words sites names place entry)
    (rw (decimal_lacks 10 place (omega arith) at)
    (rw (decimal_lacks 10 entry.session (omega arith) session)
    (rw (decimal_lacks 10 entry.seq (omega arith) seq)
    (each (call_words sites names entry.call) (outcome_words names entry.outcome) (call_parts sites names are_sites are_names entry.call) (outcome_parts names are_names entry.outcome)))))

-- an entry whose numbers have 32 bits
pub record IsSmall (entry : Entry) : Type 0 where
  pub session : entry.session < 2 ^ 32
  pub seq : entry.seq < 2 ^ 32

pub entry_parts : (sites names : List (List ℕ)) → AreAllNames sites → AreAllNames names → (place : ℕ) (entries : List Entry) → place + length entries ≤ 2 ^ 32 → All IsSmall entries
    → list_all (lacks 10) (entry_lines sites names place entries) ≡ true
unfolding entry_lines
entry_parts sites names are_sites are_names place [] few small = refl
entry_parts sites names are_sites are_names place (entry ∷ entries) few small =
    let first = All-head IsSmall entry entries small in
    rw (entry_part sites names are_sites are_names place entry (omega (arith, few)) first.session first.seq)
    (entry_parts sites names are_sites are_names (place + 1) entries (omega (arith, few)) (All-tail IsSmall entry entries small))

site_part : (names : List (List ℕ)) → AreAllNames names → (site : List ℕ) (mark : SiteMark) → is_name site ≡ true → lacks 10 (site_text names site mark) ≡ true
site_part names are site mark name =
    both (codes "site " ++ site ++ codes " ") (mark_text names mark.executed mark.pending mark.included)
    (both (codes "site " ++ site) (codes " ") (name_lacks 10 site refl name) refl)
    (mark_part names are mark.executed mark.pending mark.included)

pub site_parts : (names : List (List ℕ)) → AreAllNames names → (sites : List (List ℕ)) (marks : List SiteMark) → AreAllNames sites → list_all (lacks 10) (site_lines names sites marks) ≡ true
unfolding site_lines
site_parts names are [] marks are_sites = refl
site_parts names are (site ∷ sites) [] are_sites = refl
site_parts names are (site ∷ sites) (mark ∷ marks) are_sites =
    let Name : List ℕ → Type 0 = λ text. is_name text ≡ true in
    rw (site_part names are site mark (All-head Name site sites are_sites)) (site_parts names are sites marks (All-tail Name site sites are_sites))

verdict_part : (names : List (List ℕ)) → AreAllNames names → (waited : Option ℕ) → lacks 10 (verdict_text names waited) ≡ true
verdict_part names are None = refl
verdict_part names are (Some e) = name_part names are e

pub end_parts : (names : List (List ℕ)) → AreAllNames names → (waited : Option ℕ) (count : ℕ) → count < 2 ^ 32 → list_all (lacks 10) (end_lines names waited count) ≡ true
end_parts names are waited count small = rw (verdict_part names are waited) (rw (decimal_lacks 10 count (omega arith) small) refl)
