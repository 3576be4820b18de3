-- Names by their numbers: one more, the numbers of some texts, and lists that go on.
use Rattle.std.proofs.Common.{◌≡◌, ℕ, suc, ◌+◌, ◌<◌, inl, inr, Bool, true, List, [], ◌∷◌, ◌++◌, length, get_or, Option, Some, None, refl, sym, ap, subst, ◌∙◌, arith}
use Rattle.std.specs.List.{slice_get}
use Rattle.std.specs.Map.{lookup}
use Rattle.std.specs.BTreeMap.{is_at}
use Rattle.std.specs.Ordering.{nat_cmp}
use Rattle.std.specs.Cmp.Lexicographic.{slice_cmp}
use Rattle.std.specs.Borrow.{Bor}
use Rattle.std.specs.Str.{bytes_eq}
use Rattle.std.proofs.lemmas.Bool.{cases_lt}
use Rattle.std.proofs.lemmas.List.{append-nil, append_assoc, get_or_append_left, get_or_push, length_push, length-append, map-append}
use Rattle.std.proofs.lemmas.List.Elements.{All-nil, All-push, All-weaker}
use Rattle.std.proofs.lemmas.Option.{get_or_from_slice_get, slice_get-get_or, slice_get_within}
use Rattle.std.proofs.lemmas.Slice.Eq.{bytes_eq-Decides}
use Rattle.dcr_set.specs.Least.{least}
use Rattle.dcr_set.proofs.LeastLemmas.{least-ext, least-none, least-none_from, least-some, least-suc, or_this}
use Rattle.dcr_graph.specs.IndexModel.{Numbers, number_at, with_number}
use Rattle.dcr_graph.specs.Names.{AreDistinct, is_name, number_of}
use Rattle.dcr_policy.specs.Numbered.{named}
use Rattle.dcr_policy.proofs.ListLemmas.{map_same}
use Rattle.dcr_roles.specs.Numbering.{AreNumbers, AreNumbersOf, GoesOn, IsNumbering}

-- ---- lists that go on

pub goes_on_none : (names : List (List ℕ)) → GoesOn names names
goes_on_none names = record { more = []; is = sym (append-nil names) }

pub goes_on_more : (old now : List (List ℕ)) (name : List ℕ) → now ≡ old ++ name ∷ [] → GoesOn old now
goes_on_more old now name e = record { more = name ∷ []; is = e }

pub goes_on_twice : (a b c : List (List ℕ)) → GoesOn a b → GoesOn b c → GoesOn a c
goes_on_twice a b c h k = record { more = h.more ++ k.more; is = k.is ∙ ap (λ xs. xs ++ k.more) h.is ∙ append_assoc a h.more k.more }

-- ---- the numbers of some texts

-- they stay where the names go on
pub numbers_kept : (old new texts : List (List ℕ)) (numbers : List ℕ) → GoesOn old new → AreNumbersOf old texts numbers → AreNumbersOf new texts numbers
numbers_kept old new texts numbers on h = record {
  known = All-weaker (λ n. n < length old) (λ n. n < length new) (λ n l. (let longer = ap (λ xs. length xs) on.is ∙ length-append old on.more in omega arith)) numbers h.known;
  named =
      map_same (λ n. get_or new n []) (λ n. get_or old n []) numbers (λ k d within.
      let n = get_or numbers k d in ap (λ xs. get_or xs n []) on.is ∙ get_or_append_left old on.more [] n (h.known k d within))
      ∙ h.named;
}

pub numbers_none : (names : List (List ℕ)) → AreNumbersOf names [] []
numbers_none names = record { known = All-nil (λ n. n < length names); named = refl }

pub numbers_more : (names texts : List (List ℕ)) (numbers : List ℕ) (text : List ℕ) (n : ℕ) → AreNumbersOf names texts numbers → slice_get names n ≡ Some text → AreNumbersOf names (texts ++ text ∷ []) (numbers ++ n ∷ [])
numbers_more names texts numbers text n h is = record {
  known = All-push (λ m. m < length names) numbers n h.known (slice_get_within names n text is);
  named =
      map-append (λ m. get_or names m []) numbers (n ∷ [])
      ∙ ap (λ xs. xs ++ get_or names n [] ∷ []) h.named
      ∙ ap (λ t. texts ++ t ∷ []) (get_or_from_slice_get names n text [] is);
}

-- one text more, and perhaps new names
pub numbers_next : (old new texts more : List (List ℕ)) (numbers longer : List ℕ) (text : List ℕ) (n : ℕ) → GoesOn old new → AreNumbersOf old texts numbers → slice_get new n ≡ Some text
    → more ≡ texts ++ text ∷ [] → longer ≡ numbers ++ n ∷ [] → AreNumbersOf new more longer
numbers_next old new texts more numbers longer text n on h is with_text with_number =
    subst (AreNumbersOf new more) (sym with_number)
    (subst (λ ts. AreNumbersOf new ts (numbers ++ n ∷ [])) (sym with_text) (numbers_more new texts numbers text n (numbers_kept old new texts numbers on h) is))

-- ---- names with their numbers

pub none_numbered : (numbers : Numbers) → numbers.entries ≡ [] → AreNumbers numbers []
none_numbered numbers empty = λ text.
    ap (λ es. lookup (is_at (λ (key : Bor (List ℕ)). slice_cmp nat_cmp text key.now)) es) empty
    ∙ sym (least-none_from 0 (λ k. bytes_eq (get_or {A = List ℕ} [] k []) text) (λ j l. absurd (omega arith)))

pub numbering_none : (numbers : Numbers) → numbers.entries ≡ [] → IsNumbering numbers []
numbering_none numbers empty = record { found = none_numbered numbers empty; distinct = λ i j before within. absurd (omega arith); are_names = All-nil (λ name. is_name name ≡ true) }

-- a text has the number of the first that is it, also where one more stands behind
number_more : (names : List (List ℕ)) (name other : List ℕ) → number_of (names ++ name ∷ []) other ≡ with_number (number_of names other) name (length names) other
number_more names name other =
    ap (λ n. least n (is_other (names ++ name ∷ []))) (length_push names name ∙ (let e : length names + 1 ≡ suc (length names) = omega arith in e))
    ∙ least-suc (length names) (is_other (names ++ name ∷ []))
    ∙ ap (λ o. or_this o (length names) (is_other (names ++ name ∷ []) (length names)))
    (least-ext (length names) (is_other (names ++ name ∷ [])) (is_other names) (λ j l. ap (λ t. bytes_eq t other) (get_or_append_left names (name ∷ []) [] j l)))
    ∙ ap (λ t. or_this (number_of names other) (length names) (bytes_eq t other)) (get_or_push names name [] (length names) refl)
    ∙ as_given (number_of names other)
  where
    is_other : List (List ℕ) → ℕ → Bool
    is_other ts k = bytes_eq (get_or ts k []) other

    as_given : (o : Option ℕ) → or_this o (length names) (bytes_eq name other) ≡ with_number o name (length names) other
    as_given None = refl
    as_given (Some k) = refl

pub are_more : (old new : Numbers) (names : List (List ℕ)) (name : List ℕ) (number : ℕ) → AreNumbers old names → number ≡ length names
    → ((other : List ℕ) → number_at new other ≡ with_number (number_at old other) name number other) → AreNumbers new (names ++ name ∷ [])
are_more old new names name number h many put = λ other.
    put other ∙ ap (λ o. with_number o name number other) (h other) ∙ ap (λ n. with_number (number_of names other) name n other) many ∙ sym (number_more names name other)

distinct_more : (names : List (List ℕ)) (name : List ℕ) → AreDistinct names → number_of names name ≡ None → AreDistinct (names ++ name ∷ [])
distinct_more names name apart none i j before within =
    let more = length_push names name in
    elim (cases_lt j (length names)) [
      | inl inside ↦ (
          let first : i < length names = omega arith in
          ap (λ t. bytes_eq t (get_or (names ++ name ∷ []) j [])) (get_or_append_left names (name ∷ []) [] i first)
          ∙ ap (bytes_eq (get_or names i [])) (get_or_append_left names (name ∷ []) [] j inside)
          ∙ apart i j before inside)
      | inr last ↦ (
          let first : i < length names = omega arith in
          let end : length names ≡ j = omega arith in
          ap (λ t. bytes_eq t (get_or (names ++ name ∷ []) j [])) (get_or_append_left names (name ∷ []) [] i first)
          ∙ ap (bytes_eq (get_or names i [])) (get_or_push names name [] j end)
          ∙ least-none (length names) (λ k. bytes_eq (get_or names k []) name) none i first)
    ]

-- a name more, which has no number yet
pub numbering_more : (old new : Numbers) (names : List (List ℕ)) (name : List ℕ) (number : ℕ) → IsNumbering old names → is_name name ≡ true → number_at old name ≡ None → number ≡ length names
    → ((other : List ℕ) → number_at new other ≡ with_number (number_at old other) name number other) → IsNumbering new (names ++ name ∷ [])
numbering_more old new names name number h named none many put = record {
  found = are_more old new names name number h.found many put;
  distinct = distinct_more names name h.distinct (sym (h.found name) ∙ none);
  are_names = All-push (λ n. is_name n ≡ true) names name h.are_names named;
}

-- it stands there, also by another text of its bytes
pub number_last : (old new : List (List ℕ)) (name text : List ℕ) (number : ℕ) → new ≡ old ++ name ∷ [] → number ≡ length old → text ≡ name → slice_get new number ≡ Some text
number_last old new name text number longer many same =
    let more = length_push old name in
    ap (λ names. slice_get names number) longer
    ∙ slice_get-get_or (old ++ name ∷ []) number [] (omega (arith, more, many))
    ∙ ap Some (get_or_push old name [] number (sym many) ∙ sym same)

-- a name that has a number stands there
pub number_found : (numbers : Numbers) (names : List (List ℕ)) (text : List ℕ) (n : ℕ) → AreNumbers numbers names → number_at numbers text ≡ Some n → slice_get names n ≡ Some text
number_found numbers names text n h e =
    let is = least-some (length names) (λ k. bytes_eq (get_or names k []) text) n (sym (h text) ∙ e) in
    slice_get-get_or names n [] is.below ∙ ap Some ((bytes_eq-Decides (get_or names n []) text).0 is.passes)

-- and is one
pub number_named : (numbers : Numbers) (names : List (List ℕ)) (text : List ℕ) (n : ℕ) → IsNumbering numbers names → slice_get names n ≡ Some text → is_name text ≡ true
number_named numbers names text n h is = ap is_name (sym (get_or_from_slice_get names n text [] is)) ∙ h.are_names n [] (slice_get_within names n text is)
