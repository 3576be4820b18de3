-- Names: how they are found, and which bytes are not in them.
use Rattle.std.proofs.Common.{◌≡◌, inl, inr, ℕ, ◌<◌, ◌≤◌, true, false, cond, eqb, List, [], ◌∷◌, length, get_or, Some, None, Option, refl, sym, ap, ◌∙◌}
use Rattle.std.specs.List.{list_all}
use Rattle.std.specs.Str.{bytes_eq}
use Rattle.std.specs.Option.{option_map}
use Rattle.std.proofs.lemmas.Bool.{and_parts, cases_lt, eqb-true, false_from_ne_true, le-leb, lt-leb, true≢false}
use Rattle.std.proofs.lemmas.Slice.Eq.{bytes_eq-Decides}
use Rattle.dcr_set.proofs.LeastLemmas.{least-some, least-from}
use Rattle.dcr_graph.specs.Names.{AreDistinct, is_name, is_name_byte, is_letter, number_of}
use Rattle.dcr_line.specs.Line.{name_of}
use Rattle.dcr_line.specs.MarkLine.{from_low}
use Rattle.dcr_line.specs.Words.{first_by, name_from}
use Rattle.dcr_line.proofs.PiecesLemmas.{lacks}

-- a name is found at its place
pub found_at : (names : List (List ℕ)) → AreDistinct names → (k : ℕ) → k < length names → number_of names (get_or names k []) ≡ Some k
found_at names apart k l = least-from (length names) (λ j. bytes_eq (get_or names j []) (get_or names k [])) k (record {
  below = l;
  passes = (bytes_eq-Decides (get_or names k []) (get_or names k [])).1 refl;
  none_before = λ j before. apart j k before l;
})

-- a name is found where the text is it
pub found_by : (names : List (List ℕ)) → AreDistinct names → (text : List ℕ) (k : ℕ) → k < length names → bytes_eq (get_or names k []) text ≡ true → number_of names text ≡ Some k
found_by names apart text k l is = ap (number_of names) (sym ((bytes_eq-Decides (get_or names k []) text).0 is)) ∙ found_at names apart k l

-- the number that is found is that of a name, which is the text
pub name_found : (names : List (List ℕ)) (text : List ℕ) (k : ℕ) → number_of names text ≡ Some k → (k < length names) × (text ≡ get_or names k [])
name_found names text k e =
    let is = least-some (length names) (λ j. bytes_eq (get_or names j []) text) k e in
    (is.below, sym ((bytes_eq-Decides (get_or names k []) text).0 is.passes))

-- no name from low on is the text
pub none_from : (names : List (List ℕ)) (text : List ℕ) (low : ℕ) → ((k : ℕ) → low ≤ k → k < length names → bytes_eq (get_or names k []) text ≡ false)
    → None ≡ from_low low (number_of names text)
none_from names text low none = by_number (number_of names text) refl
  where
    by_number : (o : Option ℕ) → number_of names text ≡ o → None ≡ from_low low o
    by_number None e = refl
    by_number (Some k) e =
        let is = least-some (length names) (λ j. bytes_eq (get_or names j []) text) k e in
        elim (cases_lt k low) [
          | inl below ↦ sym (ap (λ t. cond t (Some k) None) (lt-leb low k below))
          | inr above ↦ absurd (true≢false (sym is.passes ∙ none k above is.below))
        ]

-- a number from low on that was found
pub some_from : (low k : ℕ) (o : Option ℕ) → o ≡ Some k → low ≤ k → Some k ≡ from_low low o
some_from low k o is above = sym (ap (from_low low) is ∙ ap (λ t. cond t (Some k) None) (le-leb low k above))

letter_is_name_byte : (b : ℕ) → is_letter b ≡ true → is_name_byte b ≡ true
letter_is_name_byte b e = rw e refl

name_bytes : (text : List ℕ) → is_name text ≡ true → list_all is_name_byte text ≡ true
name_bytes [] e = absurd (true≢false (sym e))
name_bytes (b ∷ bs) e = rw (letter_is_name_byte b (and_parts _ _ e).0) ((and_parts _ _ (and_parts _ _ e).1).1)

bytes_lack : (separator : ℕ) (text : List ℕ) → is_name_byte separator ≡ false → list_all is_name_byte text ≡ true → lacks separator text ≡ true
bytes_lack separator [] none e = refl
bytes_lack separator (b ∷ bs) none e =
    let both = and_parts _ _ e in
    let other : eqb b separator ≡ false = false_from_ne_true _ (λ same. true≢false (sym both.0 ∙ (ap is_name_byte (eqb-true b separator same) ∙ none))) in
    rw other (bytes_lack separator bs none both.1)

-- a byte that stands in no name stands not in this one
pub name_lacks : (separator : ℕ) (text : List ℕ) → is_name_byte separator ≡ false → is_name text ≡ true → lacks separator text ≡ true
name_lacks separator text none name = bytes_lack separator text none (name_bytes text name)

mapped : {A B : Type 0} (f : A → B) (o : Option A) (b : B) → option_map f o ≡ Some b → (a : A) × (o ≡ Some a) × (f a ≡ b)
mapped {A = A} {B = B} f None b e = absurd cc
mapped {A = A} {B = B} f (Some a) b e = (a, refl, cc)

-- what was read of the first word
pub record IsFirst {A : Type 0} (read : List ℕ → Option A) (words : List (List ℕ)) (a : A) (rest : List (List ℕ)) : Type 0 where
  pub word : List ℕ
  pub is : words ≡ word ∷ rest
  pub tells : read word ≡ Some a

pub first_front : {A : Type 0} (read : List ℕ → Option A) (words : List (List ℕ)) (a : A) (rest : List (List ℕ)) → first_by read words ≡ Some (a, rest) → IsFirst read words a rest
unfolding first_by
first_front {A = A} read [] a rest e = absurd cc
first_front {A = A} read (word ∷ words) a rest e =
    let found = mapped (λ (b : A). (b, words)) (read word) (a, rest) e in
    let same : found.0 ≡ a = ap (λ p. p.0) found.2 in
    let after : words ≡ rest = ap (λ p. p.1) found.2 in
    record { word = word; is = ap (λ ws. word ∷ ws) after; tells = found.1 ∙ ap Some same }

pub first_read : {A : Type 0} (read : List ℕ → Option A) (word : List ℕ) (a : A) (rest : List (List ℕ)) → read word ≡ Some a → first_by read (word ∷ rest) ≡ Some (a, rest)
unfolding first_by
first_read {A = A} read word a rest e = ap (option_map (λ b. (b, rest))) e

-- the name at the front of words
pub name_front : (names words : List (List ℕ)) (k : ℕ) (rest : List (List ℕ)) → name_from names words ≡ Some (k, rest) → (k < length names) × (words ≡ name_of names k ∷ rest)
name_front names words k rest e =
    let first = first_front (number_of names) words k rest e in
    let name = name_found names first.word k first.tells in
    (name.0, first.is ∙ ap (λ w. w ∷ rest) name.1)

pub name_read : (names : List (List ℕ)) → AreDistinct names → (k : ℕ) (rest : List (List ℕ)) → k < length names → name_from names (name_of names k ∷ rest) ≡ Some (k, rest)
name_read names apart k rest l = first_read (number_of names) (name_of names k) k rest (found_at names apart k l)
