-- Joined words.
use Rattle.std.proofs.Common.{◌≡◌, ℕ, List, [], ◌∷◌, ◌++◌, refl, sym, ap, ◌∙◌}
use Rattle.std.specs.List.{join_with_byte}
use Rattle.std.proofs.lemmas.List.{append_assoc}
use Rattle.dcr_journal.specs.declared.call.Call.{Call}
use Rattle.dcr_journal.specs.declared.call.Call.TheVariants.{Exec, Look, Enabled, Accepting}
use Rattle.dcr_journal.specs.declared.call.Outcome.{Outcome}
use Rattle.dcr_journal.specs.declared.call.Outcome.TheVariants.{Done, NotHere, Excluded, Condition, Milestone, Faulted, Marks, Can, AllDone, Waits}
use Rattle.dcr_line.specs.Line.{spaced, call_words, outcome_words}

-- two rows of words, one after the other
joined_rows : (c : ℕ) (x : List ℕ) (xs : List (List ℕ)) (y : List ℕ) (ys : List (List ℕ))
    → join_with_byte c ((x ∷ xs) ++ (y ∷ ys)) ≡ join_with_byte c (x ∷ xs) ++ (c ∷ join_with_byte c (y ∷ ys))
joined_rows c x [] y ys = refl
joined_rows c x (w ∷ xs) y ys = ap (λ t. x ++ (c ∷ t)) (joined_rows c w xs y ys) ∙ sym (append_assoc x (c ∷ join_with_byte c (w ∷ xs)) (c ∷ join_with_byte c (y ∷ ys)))

-- some word stands in each call and each outcome
pub record IsSome (words : List (List ℕ)) : Type 0 where
  pub first : List ℕ
  pub rest : List (List ℕ)
  pub is : words ≡ first ∷ rest

pub spaced_rows : (xs ys : List (List ℕ)) → IsSome xs → IsSome ys → spaced (xs ++ ys) ≡ spaced xs ++ (32 ∷ spaced ys)
spaced_rows xs ys some_x some_y =
    ap (λ t. spaced (t ++ ys)) some_x.is ∙ ap (λ t. spaced ((some_x.first ∷ some_x.rest) ++ t)) some_y.is
    ∙ joined_rows 32 some_x.first some_x.rest some_y.first some_y.rest
    ∙ sym (ap (λ t. spaced t ++ (32 ∷ spaced ys)) some_x.is ∙ ap (λ t. spaced (some_x.first ∷ some_x.rest) ++ (32 ∷ spaced t)) some_y.is)

pub call_some : (sites names : List (List ℕ)) (call : Call) → IsSome (call_words sites names call)
call_some sites names (Exec i e) = record { first = _; rest = _; is = refl }
call_some sites names (Look i) = record { first = _; rest = _; is = refl }
call_some sites names (Enabled i) = record { first = _; rest = _; is = refl }
call_some sites names Accepting = record { first = _; rest = _; is = refl }

pub outcome_some : (names : List (List ℕ)) (outcome : Outcome) → IsSome (outcome_words names outcome)
outcome_some names Done = record { first = _; rest = _; is = refl }
outcome_some names NotHere = record { first = _; rest = _; is = refl }
outcome_some names Excluded = record { first = _; rest = _; is = refl }
outcome_some names (Condition e) = record { first = _; rest = _; is = refl }
outcome_some names (Milestone e) = record { first = _; rest = _; is = refl }
outcome_some names Faulted = record { first = _; rest = _; is = refl }
outcome_some names (Marks mark) = record { first = _; rest = _; is = refl }
outcome_some names (Can set) = record { first = _; rest = _; is = refl }
outcome_some names AllDone = record { first = _; rest = _; is = refl }
outcome_some names (Waits e) = record { first = _; rest = _; is = refl }

-- a word before a call and its outcome
pub word_and_answer : (word : List ℕ) (sites names : List (List ℕ)) (call : Call) (outcome : Outcome)
    → spaced (word ∷ (call_words sites names call ++ outcome_words names outcome))
    ≡ word ++ (32 ∷ (spaced (call_words sites names call) ++ (32 ∷ spaced (outcome_words names outcome))))
word_and_answer word sites names call outcome =
    let said = call_some sites names call in
    ap (λ t. spaced (word ∷ (t ++ outcome_words names outcome))) said.is
    ∙ ap (λ t. word ++ (32 ∷ t)) (sym (ap (λ t. spaced (t ++ outcome_words names outcome)) said.is) ∙ spaced_rows (call_words sites names call) (outcome_words names outcome) said (outcome_some names outcome))
