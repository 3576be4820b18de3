-- The names of a run of a set's events, and those behind it.
use Rattle.std.proofs.Common.{◌≡◌, ℕ, zero, suc, ◌+◌, ◌-◌, ◌<◌, inl, inr, true, List, ◌++◌, length, drop, codes, Some, None, sym, ap, ◌∙◌, append_assoc, append-nil, arith}
use Rattle.std.specs.List.{range_with_len}
use Rattle.std.proofs.lemmas.Bool.{cases_lt, false≢true}
use Rattle.std.proofs.lemmas.List.Concat.{flat_map-append}
use Rattle.dcr_set.specs.EventSet.{Set, has, numbers_from, first_of, first_at_least}
use Rattle.dcr_set.proofs.LeastLemmas.{least-some, least-none}
use Rattle.dcr_set.proofs.NumbersLemmas.{numbers_is, passing_none}
use Rattle.dcr_set.proofs.RunLemmas.{IsFound, IsRun, numbers_from_0, numbers_from_none, numbers_run}
use Rattle.dcr_graph.specs.Names.{comma_names}
use Rattle.dcr_line.specs.Line.{list_text, name_of, names_text}

-- a run has an event at least
pub run_some : (s : Set) (a b : ℕ) → IsRun s a b → has s a ≡ true → a < b
run_some s a b run member = elim (cases_lt a b) [
  | inl less ↦ less
  | inr same ↦
      let equal : a ≡ b = (let begins = run.begins in omega arith) in
      absurd (false≢true (sym run.ends ∙ ap (has s) (sym equal) ∙ member))
]

-- the names of a set's events from a number on are those of the next run and those behind it
pub run_names : (names : List (List ℕ)) (s : Set) (from a b : ℕ) → IsFound s from a → IsRun s a b
    → comma_names names (numbers_from s from) ≡ comma_names names (range_with_len a (b - a)) ++ comma_names names (numbers_from s b)
run_names names s from a b found run =
    ap (comma_names names) (numbers_run s from a b found run) ∙ flat_map-append (λ k. codes "," ++ name_of names k) (range_with_len a (b - a)) (numbers_from s b)

-- what is added in one step
pub run_more : (names : List (List ℕ)) (s : Set) (from a b : ℕ) (before after piece whole : List ℕ) → IsFound s from a → IsRun s a b
    → after ≡ before ++ piece → piece ≡ comma_names names (range_with_len a (b - a)) → before ++ comma_names names (numbers_from s from) ≡ whole
    → after ++ comma_names names (numbers_from s b) ≡ whole
run_more names s from a b before after piece whole found run added is so_far =
    let rest = comma_names names (numbers_from s b) in
    ap (λ xs. xs ++ rest) added ∙ append_assoc before piece rest ∙ ap (λ xs. before ++ (xs ++ rest)) is
    ∙ ap (λ xs. before ++ xs) (sym (run_names names s from a b found run)) ∙ so_far

-- where none is left all is added
pub runs_end : (names : List (List ℕ)) (s : Set) (from : ℕ) (before whole : List ℕ) → first_at_least s from ≡ None → before ++ comma_names names (numbers_from s from) ≡ whole → before ≡ whole
runs_end names s from before whole none so_far = sym (append-nil before) ∙ ap (λ xs. before ++ comma_names names xs) (sym (numbers_from_none s from none)) ∙ so_far

-- the least event of a set is the least from 0 on
pub is_first : (s : Set) (a : ℕ) → first_of s ≡ Some a → IsFound s 0 a
is_first s a e = let first = least-some (length s) (has s) a e in record {
  from_on = omega arith;
  below = first.below;
  member = first.passes;
  none_before = λ k _ before. first.none_before k before;
}

-- the list of an empty set
pub list_none : (names : List (List ℕ)) (s : Set) → first_of s ≡ None → list_text names s ≡ codes "-"
list_none names s none = ap (names_text names) (numbers_is s ∙ passing_none 0 (length s) (has s) (λ k _ below. least-none (length s) (has s) none k (omega arith)))

behind_first : (names : List (List ℕ)) (a n : ℕ) (rest : List ℕ) → 0 < n → names_text names (range_with_len a n ++ rest) ≡ drop 1 (comma_names names (range_with_len a n)) ++ comma_names names rest
behind_first names a zero rest some = absurd (omega arith)
behind_first names a (suc n) rest some =
    ap (λ xs. name_of names a ++ xs) (flat_map-append (λ k. codes "," ++ name_of names k) (range_with_len (a + 1) n) rest)
    ∙ sym (append_assoc (name_of names a) (comma_names names (range_with_len (a + 1) n)) (comma_names names rest))

-- the list of a set is its first run, without the first comma, and what stands behind it
pub list_some : (names : List (List ℕ)) (s : Set) (a b : ℕ) → first_of s ≡ Some a → IsRun s a b
    → list_text names s ≡ drop 1 (comma_names names (range_with_len a (b - a))) ++ comma_names names (numbers_from s b)
list_some names s a b e run =
    let first = is_first s a e in
    let some = run_some s a b run first.member in
    ap (names_text names) (sym (numbers_from_0 s) ∙ numbers_run s 0 a b first run) ∙ behind_first names a (b - a) (numbers_from s b) (omega (arith, some))

-- a run has a name, and so a first byte
pub run_long : (names : List (List ℕ)) (a b : ℕ) → a < b → 0 < length (comma_names names (range_with_len a (b - a)))
run_long names a b less = by (b - a) (omega (arith, less))
  where
    by : (n : ℕ) → 0 < n → 0 < length (comma_names names (range_with_len a n))
    by zero some = absurd (omega arith)
    by (suc n) some = omega arith

-- the list stands behind the word, from what was put there: its first run, and what is behind that
pub list_put : (old word mid first last rest new list : List ℕ) → mid ≡ old ++ word → last ≡ mid ++ first → list ≡ first ++ rest → new ≡ last ++ rest → new ≡ old ++ (word ++ list)
list_put old word mid first last rest new list at_word at_first is at_rest =
    at_rest ∙ ap (λ xs. xs ++ rest) at_first ∙ append_assoc mid first rest ∙ ap (λ xs. mid ++ xs) (sym is) ∙ ap (λ xs. xs ++ list) at_word ∙ append_assoc old word list

-- and the list of no event
pub none_put : (old word mid dash list new : List ℕ) → mid ≡ old ++ word → list ≡ dash → new ≡ mid ++ dash → new ≡ old ++ (word ++ list)
none_put old word mid dash list new at_word is at_dash = at_dash ∙ ap (λ xs. mid ++ xs) (sym is) ∙ ap (λ xs. xs ++ list) at_word ∙ append_assoc old word list
