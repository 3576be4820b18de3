-- Outcomes and entries, both ways.
use Rattle.std.proofs.Common.{◌≡◌, inl, inr, ℕ, ◌<◌, ◌^◌, Bool, true, ◌&&◌, List, [], ◌∷◌, ◌++◌, length, codes, decimal, Some, None, Option, refl, sym, ap, subst, ◌∙◌, arith}
use Rattle.std.specs.List.{list_all}
use Rattle.std.specs.Option.{IfSome, option_and_then, option_map}
use Rattle.std.specs.Str.{bytes_eq}
use Rattle.std.proofs.lemmas.Bool.{false≢true}
use Rattle.std.proofs.lemmas.List.{append-nil, append_assoc}
use Rattle.std.proofs.lemmas.List.Folds.{list_all-append}
use Rattle.std.proofs.lemmas.Option.{option_and_then_some, same_Some}
use Rattle.dcr_graph.specs.Names.{AreDistinct}
use Rattle.dcr_journal.specs.declared.call.Call.{Call}
use Rattle.dcr_journal.specs.declared.call.Call.TheVariants.{Exec, Look, Enabled, Accepting}
use Rattle.dcr_journal.specs.declared.call.Outcome.{Outcome}
use Rattle.dcr_journal.specs.declared.call.Outcome.TheVariants.{Done, NotHere, Excluded, Condition, Milestone, Faulted, Marks, Can, AllDone, Waits}
use Rattle.dcr_journal.specs.declared.call.Entry.{Entry}
use Rattle.dcr_journal.specs.Run.{IsInRange}
use Rattle.dcr_line.specs.CallLine.{call_from}
use Rattle.dcr_line.specs.declared.entry.Head.{Head}
use Rattle.dcr_line.specs.EntryLine.{EntryLinesAreRead, EntryTextsAreOne, IsToldEntry, entry_from, entry_in, enabled_outcome_from, exec_outcome_after, exec_outcome_from, head_from, head_in, look_outcome_from, naming_from, number_from, number_in, outcome_from, verdict_after, verdict_from, with_head}
use Rattle.dcr_line.specs.Fits.{FitsEntry, FitsOutcome, answers_accepting, answers_enabled, answers_exec, answers_look, is_of_kind}
use Rattle.dcr_line.specs.Known.{AreNames}
use Rattle.dcr_line.specs.Line.{call_words, entry_text, entry_words, name_of, outcome_words, spaced}
use Rattle.dcr_line.specs.MarkLine.{list_from, mark_from}
use Rattle.dcr_line.specs.Words.{all_of, name_from, words_of}
use Rattle.dcr_line.proofs.CallLemmas.{call_front, call_lacks, call_read, chosen, is_word, read_all, spaced_words_of, words_of_spaced}
use Rattle.dcr_line.proofs.ListLemmas.{list_lacks}
use Rattle.dcr_line.proofs.MarkLemmas.{list_front, list_taken, mark_front, mark_lacks, mark_taken}
use Rattle.dcr_line.proofs.NameLemmas.{first_front, first_read, name_front, name_lacks, name_read}
use Rattle.dcr_line.proofs.NumberLemmas.{decimal_lacks, number_read, number_told}
use Rattle.dcr_line.proofs.PiecesLemmas.{lacks}

-- what was read from the front of words is an outcome that passes, and its words
abbrev OutcomeIs : (Outcome → Bool) → List (List ℕ) → List (List ℕ) → Outcome × List (List ℕ) → Type 0
OutcomeIs kind names words read = (kind read.0 ≡ true) × FitsOutcome (length names) read.0 × (words ≡ outcome_words names read.0 ++ read.1)

-- another first word
instead : (kind : Outcome → Bool) (names words : List (List ℕ)) (word known : List ℕ) (read : Outcome × List (List ℕ)) → bytes_eq word known ≡ true
    → OutcomeIs kind names (known ∷ words) read → OutcomeIs kind names (word ∷ words) read
instead kind names words word known read e is = (is.0, is.1, ap (λ w. w ∷ words) (is_word word known e) ∙ is.2)

-- an outcome that names an atom
naming_front : (kind : Outcome → Bool) (outcome : ℕ → Outcome) (known : List ℕ) (names words : List (List ℕ)) (read : Outcome × List (List ℕ))
    → ((e : ℕ) → e < length names → (rest : List (List ℕ)) → OutcomeIs kind names (known ∷ name_of names e ∷ rest) (outcome e, rest))
    → naming_from outcome names words ≡ Some read → OutcomeIs kind names (known ∷ words) read
naming_front kind outcome known names words read tells e =
    option_and_then_some _ (name_from names words) _ e (λ event is e1.
    let name = name_front names words event.0 event.1 is in
    let said = subst (λ ws. OutcomeIs kind names (known ∷ ws) (outcome event.0, event.1)) (sym name.1) (tells event.0 name.0 event.1) in
    subst (OutcomeIs kind names (known ∷ words)) (same_Some _ _ e1) said)

exec_front : (names words : List (List ℕ)) (read : Outcome × List (List ℕ)) → exec_outcome_from names words ≡ Some read → OutcomeIs answers_exec names words read
unfolding exec_outcome_after
exec_front names [] read e = absurd cc
exec_front names (word ∷ words) read e = elim (chosen (bytes_eq word (codes "done")) _ _ _ e) [
  | inl h ↦ instead answers_exec names words word (codes "done") read h.0 (subst (OutcomeIs answers_exec names (codes "done" ∷ words)) (same_Some _ _ h.1) (refl, tt, refl))
  | inr e1 ↦ elim (chosen (bytes_eq word (codes "not-here")) _ _ _ e1.1) [
    | inl h ↦ instead answers_exec names words word (codes "not-here") read h.0 (subst (OutcomeIs answers_exec names (codes "not-here" ∷ words)) (same_Some _ _ h.1) (refl, tt, refl))
    | inr e2 ↦ elim (chosen (bytes_eq word (codes "excluded")) _ _ _ e2.1) [
      | inl h ↦ instead answers_exec names words word (codes "excluded") read h.0 (subst (OutcomeIs answers_exec names (codes "excluded" ∷ words)) (same_Some _ _ h.1) (refl, tt, refl))
      | inr e3 ↦ elim (chosen (bytes_eq word (codes "condition")) _ _ _ e3.1) [
        | inl h ↦ instead answers_exec names words word (codes "condition") read h.0
            (naming_front answers_exec Condition (codes "condition") names words read (λ a below rest. (refl, below, refl)) h.1)
        | inr e4 ↦ elim (chosen (bytes_eq word (codes "milestone")) _ _ _ e4.1) [
          | inl h ↦ instead answers_exec names words word (codes "milestone") read h.0
              (naming_front answers_exec Milestone (codes "milestone") names words read (λ a below rest. (refl, below, refl)) h.1)
          | inr e5 ↦ elim (chosen (bytes_eq word (codes "faulted")) _ _ _ e5.1) [
            | inl h ↦ instead answers_exec names words word (codes "faulted") read h.0 (subst (OutcomeIs answers_exec names (codes "faulted" ∷ words)) (same_Some _ _ h.1) (refl, tt, refl))
            | inr none ↦ absurd (let no = none.1 in cc)
          ]
        ]
      ]
    ]
  ]
]

look_front : (names words : List (List ℕ)) (read : Outcome × List (List ℕ)) → look_outcome_from names words ≡ Some read → OutcomeIs answers_look names words read
look_front names words read e = option_and_then_some _ (mark_from names words) _ e (λ mark is e1.
    let told = mark_front names words mark.0 mark.1 is in
    subst (OutcomeIs answers_look names words) (same_Some _ _ e1) (refl, told.0, told.1))

enabled_front : (names words : List (List ℕ)) (read : Outcome × List (List ℕ)) → enabled_outcome_from names words ≡ Some read → OutcomeIs answers_enabled names words read
enabled_front names words read e = option_and_then_some _ (list_from (codes "can") names words) _ e (λ set is e1.
    let told = list_front (codes "can") names words set.0 set.1 is in
    subst (OutcomeIs answers_enabled names words) (same_Some _ _ e1) (refl, told.0, told.1))

verdict_front : (names words : List (List ℕ)) (read : Outcome × List (List ℕ)) → verdict_from names words ≡ Some read → OutcomeIs answers_accepting names words read
unfolding verdict_after
verdict_front names [] read e = absurd cc
verdict_front names (word ∷ words) read e = elim (chosen (bytes_eq word (codes "yes")) _ _ _ e) [
  | inl h ↦ instead answers_accepting names words word (codes "yes") read h.0 (subst (OutcomeIs answers_accepting names (codes "yes" ∷ words)) (same_Some _ _ h.1) (refl, tt, refl))
  | inr e1 ↦ elim (chosen (bytes_eq word (codes "waits")) _ _ _ e1.1) [
    | inl h ↦ instead answers_accepting names words word (codes "waits") read h.0
        (naming_front answers_accepting Waits (codes "waits") names words read (λ a below rest. (refl, below, refl)) h.1)
    | inr none ↦ absurd (let no = none.1 in cc)
  ]
]

-- what is read as the outcome of a call is of its kind, and its words
outcome_front : (names : List (List ℕ)) (call : Call) (words : List (List ℕ)) (read : Outcome × List (List ℕ)) → outcome_from names call words ≡ Some read
    → OutcomeIs (is_of_kind call) names words read
outcome_front names (Exec i e) words read h = exec_front names words read h
outcome_front names (Look i) words read h = look_front names words read h
outcome_front names (Enabled i) words read h = enabled_front names words read h
outcome_front names Accepting words read h = verdict_front names words read h

-- ---- the other way

exec_taken : (names : List (List ℕ)) → AreDistinct names → (outcome : Outcome) (rest : List (List ℕ)) → answers_exec outcome ≡ true → FitsOutcome (length names) outcome
    → exec_outcome_from names (outcome_words names outcome ++ rest) ≡ Some (outcome, rest)
unfolding exec_outcome_after
exec_taken names apart Done rest kind fits = refl
exec_taken names apart NotHere rest kind fits = refl
exec_taken names apart Excluded rest kind fits = refl
exec_taken names apart (Condition e) rest kind fits = ap (option_and_then (λ (event : ℕ × List (List ℕ)). Some (Condition event.0, event.1))) (name_read names apart e rest fits)
exec_taken names apart (Milestone e) rest kind fits = ap (option_and_then (λ (event : ℕ × List (List ℕ)). Some (Milestone event.0, event.1))) (name_read names apart e rest fits)
exec_taken names apart Faulted rest kind fits = refl
exec_taken names apart (Marks mark) rest kind fits = absurd (false≢true kind)
exec_taken names apart (Can set) rest kind fits = absurd (false≢true kind)
exec_taken names apart AllDone rest kind fits = absurd (false≢true kind)
exec_taken names apart (Waits e) rest kind fits = absurd (false≢true kind)

look_taken : (names : List (List ℕ)) → AreNames names → (outcome : Outcome) (rest : List (List ℕ)) → answers_look outcome ≡ true → FitsOutcome (length names) outcome
    → look_outcome_from names (outcome_words names outcome ++ rest) ≡ Some (outcome, rest)
look_taken names are (Marks mark) rest kind fits = rw (mark_taken names are mark rest fits) refl
look_taken names are Done rest kind fits = absurd (false≢true kind)
look_taken names are NotHere rest kind fits = absurd (false≢true kind)
look_taken names are Excluded rest kind fits = absurd (false≢true kind)
look_taken names are (Condition e) rest kind fits = absurd (false≢true kind)
look_taken names are (Milestone e) rest kind fits = absurd (false≢true kind)
look_taken names are Faulted rest kind fits = absurd (false≢true kind)
look_taken names are (Can set) rest kind fits = absurd (false≢true kind)
look_taken names are AllDone rest kind fits = absurd (false≢true kind)
look_taken names are (Waits e) rest kind fits = absurd (false≢true kind)

enabled_taken : (names : List (List ℕ)) → AreNames names → (outcome : Outcome) (rest : List (List ℕ)) → answers_enabled outcome ≡ true → FitsOutcome (length names) outcome
    → enabled_outcome_from names (outcome_words names outcome ++ rest) ≡ Some (outcome, rest)
enabled_taken names are (Can set) rest kind fits = rw (list_taken (codes "can") names are set rest fits) refl
enabled_taken names are Done rest kind fits = absurd (false≢true kind)
enabled_taken names are NotHere rest kind fits = absurd (false≢true kind)
enabled_taken names are Excluded rest kind fits = absurd (false≢true kind)
enabled_taken names are (Condition e) rest kind fits = absurd (false≢true kind)
enabled_taken names are (Milestone e) rest kind fits = absurd (false≢true kind)
enabled_taken names are Faulted rest kind fits = absurd (false≢true kind)
enabled_taken names are (Marks mark) rest kind fits = absurd (false≢true kind)
enabled_taken names are AllDone rest kind fits = absurd (false≢true kind)
enabled_taken names are (Waits e) rest kind fits = absurd (false≢true kind)

verdict_taken : (names : List (List ℕ)) → AreDistinct names → (outcome : Outcome) (rest : List (List ℕ)) → answers_accepting outcome ≡ true → FitsOutcome (length names) outcome
    → verdict_from names (outcome_words names outcome ++ rest) ≡ Some (outcome, rest)
unfolding verdict_after
verdict_taken names apart AllDone rest kind fits = refl
verdict_taken names apart (Waits e) rest kind fits = ap (option_and_then (λ (event : ℕ × List (List ℕ)). Some (Waits event.0, event.1))) (name_read names apart e rest fits)
verdict_taken names apart Done rest kind fits = absurd (false≢true kind)
verdict_taken names apart NotHere rest kind fits = absurd (false≢true kind)
verdict_taken names apart Excluded rest kind fits = absurd (false≢true kind)
verdict_taken names apart (Condition e) rest kind fits = absurd (false≢true kind)
verdict_taken names apart (Milestone e) rest kind fits = absurd (false≢true kind)
verdict_taken names apart Faulted rest kind fits = absurd (false≢true kind)
verdict_taken names apart (Marks mark) rest kind fits = absurd (false≢true kind)
verdict_taken names apart (Can set) rest kind fits = absurd (false≢true kind)

outcome_taken : (names : List (List ℕ)) → AreNames names → (call : Call) (outcome : Outcome) (rest : List (List ℕ)) → is_of_kind call outcome ≡ true → FitsOutcome (length names) outcome
    → outcome_from names call (outcome_words names outcome ++ rest) ≡ Some (outcome, rest)
outcome_taken names are (Exec i e) outcome rest kind fits = exec_taken names are.distinct outcome rest kind fits
outcome_taken names are (Look i) outcome rest kind fits = look_taken names are outcome rest kind fits
outcome_taken names are (Enabled i) outcome rest kind fits = enabled_taken names are outcome rest kind fits
outcome_taken names are Accepting outcome rest kind fits = verdict_taken names are.distinct outcome rest kind fits

-- no word of an outcome has a space
outcome_lacks : (names : List (List ℕ)) → AreNames names → (outcome : Outcome) → FitsOutcome (length names) outcome → list_all (lacks 32) (outcome_words names outcome) ≡ true
outcome_lacks names are Done fits = refl
outcome_lacks names are NotHere fits = refl
outcome_lacks names are Excluded fits = refl
outcome_lacks names are (Condition e) fits = rw (name_lacks 32 (name_of names e) refl (are.names e [] fits)) refl
outcome_lacks names are (Milestone e) fits = rw (name_lacks 32 (name_of names e) refl (are.names e [] fits)) refl
outcome_lacks names are Faulted fits = refl
outcome_lacks names are (Marks mark) fits = mark_lacks names are mark fits
outcome_lacks names are (Can set) fits = rw (list_lacks names are set fits) refl
outcome_lacks names are AllDone fits = refl
outcome_lacks names are (Waits e) fits = rw (name_lacks 32 (name_of names e) refl (are.names e [] fits)) refl

-- ---- entries

number_front : (words : List (List ℕ)) (n : ℕ) (rest : List (List ℕ)) → number_from words ≡ Some (n, rest) → (n < 2 ^ 32) × (words ≡ decimal n ∷ rest)
number_front words n rest e =
    let first = first_front number_in words n rest e in
    let number = number_told first.word n first.tells in
    (number.0, first.is ∙ ap (λ w. w ∷ rest) number.1)

number_taken : (n : ℕ) (rest : List (List ℕ)) → n < 2 ^ 32 → number_from (decimal n ∷ rest) ≡ Some (n, rest)
number_taken n rest small = first_read number_in (decimal n) n rest (number_read (decimal n) n small refl)

-- what was read from the front of words is a head that passes, and its words
record HeadIs (sites names words : List (List ℕ)) (read : Head × List (List ℕ)) : Type 0 where
  place : read.0.place < 2 ^ 32
  session : read.0.session < 2 ^ 32
  seq : read.0.seq < 2 ^ 32
  call : IsInRange (length sites) (length names) read.0.call
  is : words ≡ decimal read.0.place ∷ decimal read.0.session ∷ decimal read.0.seq ∷ (call_words sites names read.0.call ++ read.1)

head_front : (sites names words : List (List ℕ)) (read : Head × List (List ℕ)) → head_from sites names words ≡ Some read → HeadIs sites names words read
unfolding head_from
head_front sites names words read e =
    option_and_then_some _ (number_from words) _ e (λ place is_place e1.
    option_and_then_some _ (number_from place.1) _ e1 (λ session is_session e2.
    option_and_then_some _ (number_from session.1) _ e2 (λ seq is_seq e3.
    option_and_then_some _ (call_from sites names seq.1) _ e3 (λ call is_call e4.
    let first = number_front words place.0 place.1 is_place in
    let second = number_front place.1 session.0 session.1 is_session in
    let third = number_front session.1 seq.0 seq.1 is_seq in
    let fourth = call_front sites names seq.1 call.1 call.0 is_call in
    let found : Head × List (List ℕ) = (record { place = place.0; session = session.0; seq = seq.0; call = call.0 }, call.1) in
    let told : HeadIs sites names words found = record {
      place = first.0;
      session = second.0;
      seq = third.0;
      call = fourth.0;
      is = first.1 ∙ ap (λ ws. decimal place.0 ∷ ws) (second.1 ∙ ap (λ ws. decimal session.0 ∷ ws) (third.1 ∙ ap (λ ws. decimal seq.0 ∷ ws) fourth.1));
    } in
    subst (HeadIs sites names words) (same_Some _ _ e4) told))))

abbrev EntryIs : List (List ℕ) → List (List ℕ) → List (List ℕ) → (ℕ × Entry) × List (List ℕ) → Type 0
EntryIs sites names words read = IsToldEntry (length sites) (length names) read.0.0 read.0.1 × (words ≡ entry_words sites names read.0.0 read.0.1 ++ read.1)

-- what is read from the front of words as an entry is the entry's words
entry_front : (sites names words : List (List ℕ)) (read : (ℕ × Entry) × List (List ℕ)) → entry_from sites names words ≡ Some read → EntryIs sites names words read
unfolding entry_from
entry_front sites names words read e =
    option_and_then_some _ (head_from sites names words) _ e (λ found is_head e1.
    option_and_then_some _ (outcome_from names found.0.call found.1) _ e1 (λ outcome is_outcome e2.
    let head = found.0 in
    let first = head_front sites names words found is_head in
    let second = outcome_front names head.call found.1 outcome is_outcome in
    let entry = with_head head outcome.0 in
    let fits : IsToldEntry (length sites) (length names) head.place entry = record {
      place = first.place;
      session = first.session;
      seq = first.seq;
      fits = record { call = first.call; kind = second.0; outcome = second.1 };
    } in
    let said : words ≡ entry_words sites names head.place entry ++ outcome.1 =
    first.is ∙ ap (λ ws. decimal head.place ∷ decimal head.session ∷ decimal head.seq ∷ ws)
    (ap (λ ws. call_words sites names head.call ++ ws) second.2 ∙ sym (append_assoc (call_words sites names head.call) (outcome_words names outcome.0) outcome.1)) in
    subst (EntryIs sites names words) (same_Some _ _ e2) (fits, said)))

-- and the entry's words are read as the entry
entry_taken : (sites names : List (List ℕ)) → AreNames sites → AreNames names → (place : ℕ) (entry : Entry) (rest : List (List ℕ)) → IsToldEntry (length sites) (length names) place entry
    → entry_from sites names (entry_words sites names place entry ++ rest) ≡ Some ((place, entry), rest)
unfolding entry_from head_from
entry_taken sites names are_sites are_names place entry rest told =
    let said = call_words sites names entry.call in
    let answered = outcome_words names entry.outcome in
    rw (number_taken place (decimal entry.session ∷ decimal entry.seq ∷ ((said ++ answered) ++ rest)) told.place)
    (rw (number_taken entry.session (decimal entry.seq ∷ ((said ++ answered) ++ rest)) told.session)
    (rw (number_taken entry.seq ((said ++ answered) ++ rest) told.seq)
    (rw (append_assoc said answered rest)
    (rw (call_read sites names are_sites.distinct are_names.distinct entry.call (answered ++ rest) told.fits.call)
    (rw (outcome_taken names are_names entry.call entry.outcome rest told.fits.kind told.fits.outcome) refl)))))

entry_lacks : (sites names : List (List ℕ)) → AreNames sites → AreNames names → (place : ℕ) (entry : Entry) → IsToldEntry (length sites) (length names) place entry
    → list_all (lacks 32) (entry_words sites names place entry) ≡ true
entry_lacks sites names are_sites are_names place entry told =
    rw (decimal_lacks 32 place (omega arith) told.place)
    (rw (decimal_lacks 32 entry.session (omega arith) told.session)
    (rw (decimal_lacks 32 entry.seq (omega arith) told.seq)
    (list_all-append (lacks 32) (call_words sites names entry.call) (outcome_words names entry.outcome)
    ∙ ap (λ t. t && list_all (lacks 32) (outcome_words names entry.outcome)) (call_lacks sites names are_sites are_names entry.call told.fits.call)
    ∙ outcome_lacks names are_names entry.outcome told.fits.outcome)))

-- a line that is read as an entry is the text of it and its place
pub entry_told : (sites names : List (List ℕ)) (line : List ℕ) (place : ℕ) (entry : Entry) → entry_in sites names line ≡ Some (place, entry)
    → IsToldEntry (length sites) (length names) place entry × (line ≡ entry_text sites names place entry)
unfolding entry_in
entry_told sites names line place entry e =
    let told = entry_front sites names (words_of line) ((place, entry), []) (read_all (entry_from sites names (words_of line)) (place, entry) e) in
    (told.0, sym (spaced_words_of line) ∙ ap spaced (told.1 ∙ append-nil (entry_words sites names place entry)))

-- and the text of an entry and its place is read as them
pub entry_read : (sites names : List (List ℕ)) → AreNames sites → AreNames names → (place : ℕ) (entry : Entry) → IsToldEntry (length sites) (length names) place entry
    → entry_in sites names (entry_text sites names place entry) ≡ Some (place, entry)
unfolding entry_in
entry_read sites names are_sites are_names place entry told =
    let same : words_of (entry_text sites names place entry) ≡ entry_words sites names place entry ++ [] =
    words_of_spaced (entry_words sites names place entry) (record { first = _; rest = _; is = refl }) (entry_lacks sites names are_sites are_names place entry told)
    ∙ sym (append-nil (entry_words sites names place entry)) in
    ap (λ ws. all_of (entry_from sites names ws)) same ∙ ap all_of (entry_taken sites names are_sites are_names place entry [] told)

pub entry_lines : EntryLinesAreRead
entry_lines sites names are_sites are_names line place entry = (
  λ e. entry_told sites names line place entry e,
  λ h. ap (entry_in sites names) h.1 ∙ entry_read sites names are_sites are_names place entry h.0,
)

pub entry_texts : EntryTextsAreOne
entry_texts sites names are_sites are_names p q a b told_a told_b same =
    let one : (p, a) ≡ (q, b) = same_Some _ _ (sym (entry_read sites names are_sites are_names p a told_a) ∙ ap (entry_in sites names) same ∙ entry_read sites names are_sites are_names q b told_b) in
    (ap (λ t. t.0) one, ap (λ t. t.1) one)

-- what was read, without the words behind it
pub first_read_is : {A : Type 0} (found : Option A) (front : Option (A × List (List ℕ))) (words : List (List ℕ)) → option_map (λ a. (a, words)) found ≡ front → found ≡ option_map (λ read. read.0) front
first_read_is {A = A} None front words e = ap (option_map (λ (read : A × List (List ℕ)). read.0)) e
first_read_is {A = A} (Some a) front words e = ap (option_map (λ (read : A × List (List ℕ)). read.0)) e

-- the call of a head is of these sites and atoms
pub head_in_range : (sites names : List (List ℕ)) (line : List ℕ) (found : Option Head) → found ≡ head_in sites names line → IfSome found (λ head. IsInRange (length sites) (length names) head.call)
head_in_range sites names line found e = by_front (head_from sites names (words_of line)) found refl e
  where
    by_front : (front : Option (Head × List (List ℕ))) (found : Option Head) → head_from sites names (words_of line) ≡ front → found ≡ option_map (λ (read : Head × List (List ℕ)). read.0) front
        → IfSome found (λ head. IsInRange (length sites) (length names) head.call)
    by_front None found is e = subst (λ o. IfSome o (λ (head : Head). IsInRange (length sites) (length names) head.call)) (sym e) tt
    by_front (Some read) found is e = subst (λ o. IfSome o (λ (head : Head). IsInRange (length sites) (length names) head.call)) (sym e) (head_front sites names (words_of line) read is).call

-- what is read fits the sites and the atoms
pub entry_fits : (sites names : List (List ℕ)) (line : List ℕ) (found : Option (ℕ × Entry)) → found ≡ entry_in sites names line → IfSome found (λ told. FitsEntry (length sites) (length names) told.1)
entry_fits sites names line None e = tt
entry_fits sites names line (Some told) e = (entry_told sites names line told.0 told.1 (sym e)).0.fits
