-- An index of texts: a text's number is added to the map at its place.
use Rattle.std.proofs.Common.{◌≡◌, ◌≢◌, ℕ, suc, Bor, ◌+◌, ◌<◌, ◌⊎◌, inl, inr, Bool, true, false, cond, List, [], ◌∷◌, ◌++◌, length, get_or, set, take, map, Option, Some, None, is_some, refl, sym, ap, ◌∙◌, arith}
use Rattle.std.specs.List.{All}
use Rattle.std.specs.Str.{bytes_eq}
use Rattle.std.specs.Map.{update, lookup}
use Rattle.std.proofs.lemmas.Bool.{cases_lt}
use Rattle.std.specs.BTreeMap.{is_at}
use Rattle.std.specs.Ordering.{nat_cmp}
use Rattle.std.specs.Cmp.Lexicographic.{slice_cmp}
use Rattle.std.proofs.lemmas.Nat.{mod_below}
use Rattle.std.proofs.lemmas.List.{take_more, length-take, length-map, map_push, length-set, length_push, get_or-set_same, get_or-set_other, get_or_push, get_or_append_left}
use Rattle.std.proofs.lemmas.Slice.Eq.{bytes_eq-Decides}
use Rattle.std.specs.declared.hash.FoldHasher.{FoldHasher}
use Rattle.dcr_set.specs.Least.{least}
use Rattle.dcr_set.proofs.LeastLemmas.{or_this, least-ext, least-none_from, least-suc}
use Rattle.dcr_graph.specs.Names.{number_of}
use Rattle.dcr_graph.specs.IndexModel.{Numbers, place_among, number_at, with_number, HasNumbers}

-- ---- a map

-- a text's place is among them
pub within : (places : ℕ) (start : FoldHasher) (text : List ℕ) → 0 < places → place_among places start text < places
unfolding place_among
within places start text some = mod_below _ places some

same_text : (a b : List ℕ) → bytes_eq a b ≡ true → a ≡ b
same_text a b e = (bytes_eq-Decides a b).0 e

-- the others stay, and the text has its number, where it had none
pub with_put : (old : List ℕ → Option ℕ) (text : List ℕ) (number : ℕ) (other : List ℕ) → is_some (old text) ≡ false → update bytes_eq old text (Some number) other ≡ with_number (old other) text number other
with_put old text number other none = at (bytes_eq text other) refl (old other) refl
  where
    at : (b : Bool) → bytes_eq text other ≡ b → (o : Option ℕ) → old other ≡ o → cond b (Some number) o ≡ with_number o text number other
    at false e None is = rw e refl
    at false e (Some k) is = refl
    at true e None is = rw e refl
    at true e (Some k) is = let same = same_text text other e in let bad = sym none ∙ (ap (λ t. is_some (old t)) same ∙ ap (λ o. is_some o) is) in absurd cc

-- where it has one, nothing is added
pub with_kept : (old : List ℕ → Option ℕ) (text : List ℕ) (number : ℕ) (other : List ℕ) → is_some (old text) ≡ true → old other ≡ with_number (old other) text number other
with_kept old text number other some = at (old other) refl (bytes_eq text other) refl
  where
    at : (o : Option ℕ) → old other ≡ o → (b : Bool) → bytes_eq text other ≡ b → o ≡ with_number o text number other
    at (Some k) is b e = refl
    at None is false e = rw e refl
    at None is true e = let same = same_text text other e in let bad = sym some ∙ (ap (λ t. is_some (old t)) same ∙ ap (λ o. is_some o) is) in absurd cc

-- ---- one text more

same_or_apart : (a b : ℕ) → (a ≡ b) ⊎ (a ≢ b)
same_or_apart a b = elim (cases_lt a b) [
  | inl below ↦ inr (λ e. omega arith)
  | inr above ↦ elim (cases_lt b a) [ inl below ↦ inr (λ e. omega arith) | inr same ↦ inl (omega arith) ]
]

-- a text has the number of the first that is it, also where one more stands behind
number_more : (texts : List (List ℕ)) (text other : List ℕ) → number_of (texts ++ text ∷ []) other ≡ with_number (number_of texts other) text (length texts) other
number_more texts text other =
    let last : least (length (texts ++ text ∷ [])) (named (texts ++ text ∷ []) other) ≡ least (suc (length texts)) (named (texts ++ text ∷ []) other) =
    ap (λ n. least n (named (texts ++ text ∷ []) other)) (length_push texts text ∙ (let e : length texts + 1 ≡ suc (length texts) = omega arith in e)) in
    last ∙ (least-suc (length texts) (named (texts ++ text ∷ []) other)
    ∙ (ap (λ o. or_this o (length texts) (named (texts ++ text ∷ []) other (length texts))) (least-ext (length texts) (named (texts ++ text ∷ []) other) (named texts other) (λ j l. ap (λ t. bytes_eq t other) (get_or_append_left texts (text ∷ []) [] j l)))
    ∙ (ap (λ t. or_this (number_of texts other) (length texts) (bytes_eq t other)) (get_or_push texts text [] (length texts) refl) ∙ as_given (number_of texts other))))
  where
    named : List (List ℕ) → List ℕ → ℕ → Bool
    named ts other k = bytes_eq (get_or ts k []) other

    as_given : (o : Option ℕ) → or_this o (length texts) (bytes_eq text other) ≡ with_number o text (length texts) other
    as_given None = refl
    as_given (Some k) = refl

-- the texts before i + 1 are those before i and the one at i
pub texts_more : (texts : List (Bor (List ℕ))) (i : ℕ) (d : Bor (List ℕ)) → i < length texts → map (λ (text : Bor (List ℕ)). text.now) (take (i + 1) texts) ≡ map (λ (text : Bor (List ℕ)). text.now) (take i texts) ++ (get_or texts i d).now ∷ []
texts_more texts i d within = ap (map (λ (text : Bor (List ℕ)). text.now)) (take_more texts i d within) ∙ map_push (λ (text : Bor (List ℕ)). text.now) (take i texts) (get_or texts i d)

pub texts_before : (texts : List (Bor (List ℕ))) (i : ℕ) → i < length texts → i ≡ length (map (λ (text : Bor (List ℕ)). text.now) (take i texts))
texts_before texts i within = sym (length-map (take i texts) (λ (text : Bor (List ℕ)). text.now) ∙ (let e : length (take i texts) ≡ i = omega (arith, length-take i texts) in e))

-- no text has a number at first
pub none_yet : (start : FoldHasher) (places : List Numbers) → All (λ (numbers : Numbers). numbers.entries ≡ []) places → 0 < length places → HasNumbers start places []
none_yet start places empty some = λ text d.
    let place = place_among (length places) start text in
    ap (λ es. lookup (is_at (λ (key : Bor (List ℕ)). slice_cmp nat_cmp text key.now)) es) (empty place d (within (length places) start text some))
    ∙ sym (least-none_from 0 (λ k. bytes_eq (get_or {A = List ℕ} [] k []) text) (λ j l. absurd (omega arith)))

-- the map at the text's place has its number after the step, and the maps elsewhere are as before
pub numbers_more : (start : FoldHasher) (places : List Numbers) (was numbers : Numbers) (texts more : List (List ℕ)) (text : List ℕ) (p number : ℕ) → more ≡ texts ++ text ∷ [] → p < length places → p ≡ place_among (length places) start text → number ≡ length texts
    → was ≡ get_or places p was → HasNumbers start places texts → ((other : List ℕ) → number_at numbers other ≡ with_number (number_at was other) text number other)
    → HasNumbers start (set places p numbers) more
numbers_more start places was numbers texts more text p number longer within at_text many read before put = λ other d.
    ap (λ n. number_at (get_or (set places p numbers) (place_among n start other) d) other) (length-set places p numbers)
    ∙ (at other d (same_or_apart (place other) p) ∙ (ap (λ n. with_number (number_of texts other) text n other) many ∙ (sym (number_more texts text other) ∙ ap (λ ts. number_of ts other) (sym longer))))
  where
    place : List ℕ → ℕ
    place t = place_among (length places) start t

    apart : (other : List ℕ) (o : Option ℕ) → place other ≢ p → o ≡ with_number o text number other
    apart other (Some k) away = refl
    apart other None away = by_test (bytes_eq text other) refl
      where
        by_test : (b : Bool) → bytes_eq text other ≡ b → None ≡ cond b (Some number) None
        by_test false e = refl
        by_test true e = absurd (away (ap place (sym (same_text text other e)) ∙ sym at_text))

    at : (other : List ℕ) (d : Numbers) → (place other ≡ p) ⊎ (place other ≢ p) → number_at (get_or (set places p numbers) (place other) d) other ≡ with_number (number_of texts other) text number other
    at other d (inl same) =
        ap (λ k. number_at (get_or (set places p numbers) k d) other) same
        ∙ (ap (λ m. number_at m other) (get_or-set_same places p numbers d within)
        ∙ (put other ∙ ap (λ o. with_number o text number other) (ap (λ m. number_at m other) (read ∙ ap (λ k. get_or places k was) (sym same)) ∙ before other was)))
    at other d (inr away) =
        ap (λ m. number_at m other) (get_or-set_other places p (place other) numbers d away)
        ∙ (before other d ∙ apart other (number_of texts other) away)
