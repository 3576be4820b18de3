-- A set that is gathered from a list of numbers: those of the list that pass, and the sets of the numbers joined.
use Rattle.std.proofs.Common.{◌≡◌, ℕ, ◌<◌, Bool, true, false, ◌&&◌, ◌||◌, eqb, List, [], ◌∷◌, length, get_or, inl, inr, refl, sym, ap, ◌∙◌, arith}
use Rattle.std.specs.List.{All, list_any, range_with_len, Contains}
use Rattle.std.proofs.lemmas.Bool.{cases_Bool, false≢true, and_parts, eqb-true, eq-eqb}
use Rattle.std.proofs.lemmas.List.Elements.{filter_passes}
use Rattle.std.proofs.lemmas.List.Folds.{list_any_at, list_any_none}
use Rattle.dcr_set.specs.Least.{some_below}
use Rattle.dcr_set.specs.EventSet.{Set, has, those, numbers, no_event, with_event, union}
use Rattle.dcr_set.proofs.LeastLemmas.{some_below-at, some_below-from}
use Rattle.dcr_set.proofs.NumbersLemmas.{numbers-below, numbers_from_member}
use Rattle.dcr_set.proofs.SetLemmas.{has-those, those-ext, those-has}
use Rattle.dcr_graph.proofs.BoolLemmas.{and_false, or_assoc, or_true, or_false}

-- whether a number is in the list
abbrev pub is_listed : List ℕ → ℕ → Bool
is_listed list k = list_any (λ e. eqb k e) list

-- what was gathered, and what of the rest of the list passes, are all that pass
abbrev pub Gathers : ℕ → (ℕ → Bool) → Set → List ℕ → Type 0
Gathers n p s rest = those n (λ k. has s k || (is_listed rest k && p k)) ≡ those n p

member_listed : (list : List ℕ) (k : ℕ) → Contains list k → is_listed list k ≡ true
member_listed list k found = list_any_at (λ e. eqb k e) list found.0 _ found.1 (eq-eqb k _ (sym found.2))

-- nothing was gathered yet of a set that has all that pass
pub gathers_none : (n : ℕ) (p : ℕ → Bool) (s : Set) (all : List ℕ) → all ≡ numbers s → ((k : ℕ) → p k ≡ true → has s k ≡ true) → Gathers n p (no_event n) all
gathers_none n p s all are within = those-ext n _ _ (λ k below. ap (λ b. b || (is_listed all k && p k)) (has-those n (λ _. false) k below) ∙ here k (p k) refl)
  where
    here : (k : ℕ) (b : Bool) → p k ≡ b → (is_listed all k && b) ≡ b
    here k true passes = ap (λ b. b && true) (ap (λ list. is_listed list k) are ∙ member_listed (numbers s) k (numbers_from_member s k (within k passes)))
    here k false fails = and_false (is_listed all k)

-- the next number passes, and is added
pub gathers_more : (n : ℕ) (p : ℕ → Bool) (s : Set) (e : ℕ) (rest list : List ℕ) → length s ≡ n → list ≡ e ∷ rest → p e ≡ true → Gathers n p s list → Gathers n p (with_event s e) rest
gathers_more n p s e rest list room is passes before =
    those-ext n _ _ (λ k below. ap (λ b. b || (is_listed rest k && p k)) (has-those (length s) (λ j. eqb j e || has s j) k (omega arith)) ∙ here k (eqb k e) refl)
    ∙ ap (λ l. those n (λ k. has s k || (is_listed l k && p k))) (sym is) ∙ before
  where
    here : (k : ℕ) (b : Bool) → eqb k e ≡ b → ((b || has s k) || (is_listed rest k && p k)) ≡ (has s k || ((b || is_listed rest k) && p k))
    here k true same = sym (ap (λ b. has s k || b) (ap p (eqb-true k e same) ∙ passes) ∙ or_true (has s k))
    here k false other = refl

-- the next number doesn't pass
pub gathers_same : (n : ℕ) (p : ℕ → Bool) (s : Set) (e : ℕ) (rest list : List ℕ) → list ≡ e ∷ rest → p e ≡ false → Gathers n p s list → Gathers n p s rest
gathers_same n p s e rest list is fails before =
    those-ext n _ _ (λ k below. here k (eqb k e) refl) ∙ ap (λ l. those n (λ k. has s k || (is_listed l k && p k))) (sym is) ∙ before
  where
    here : (k : ℕ) (b : Bool) → eqb k e ≡ b → (has s k || (is_listed rest k && p k)) ≡ (has s k || ((b || is_listed rest k) && p k))
    here k true same =
        let out : p k ≡ false = ap p (eqb-true k e same) ∙ fails in
        ap (λ b. has s k || (is_listed rest k && b)) out ∙ ap (λ b. has s k || b) (and_false (is_listed rest k)) ∙ ap (λ b. has s k || b) (sym out)
    here k false other = refl

-- the list is at its end
pub gathers_all : (n : ℕ) (p : ℕ → Bool) (s : Set) (list : List ℕ) → length s ≡ n → list ≡ [] → Gathers n p s list → s ≡ those n p
gathers_all n p s list room is before =
    sym (those-has s) ∙ ap (λ m. those m (has s)) room ∙ those-ext n _ _ (λ k below. sym (or_false (has s k)))
    ∙ ap (λ l. those n (λ k. has s k || (is_listed l k && p k))) (sym is) ∙ before

-- the numbers of a set are in it
numbers_member : (s : Set) → All (λ k. has s k ≡ true) (numbers s)
unfolding numbers
numbers_member s = filter_passes (has s) (range_with_len 0 (length s))

-- some of the numbers of a set pass
any-numbers : (s : Set) (f : ℕ → Bool) → list_any f (numbers s) ≡ some_below (length s) (λ b. has s b && f b)
any-numbers s f = elim (cases_Bool (some_below (length s) (λ b. has s b && f b))) [
  | inl some ↦
      let found = some_below-from (length s) (λ b. has s b && f b) some in
      let both = and_parts (has s found.0) (f found.0) found.2 in
      let listed = numbers_from_member s found.0 both.0 in
      list_any_at f (numbers s) listed.0 _ listed.1 (ap f listed.2 ∙ both.1) ∙ sym some
  | inr none ↦
      list_any_none f (numbers s) (λ k d within. elim (cases_Bool (f (get_or (numbers s) k d))) [
        | inl passes ↦
            absurd (false≢true (sym none ∙ some_below-at (length s) (λ b. has s b && f b) (get_or (numbers s) k d) (numbers-below s k d within)
            (ap (λ b. b && f (get_or (numbers s) k d)) (numbers_member s k d within) ∙ passes)))
        | inr fails ↦ fails
      ])
      ∙ sym none
]

-- what was joined, and what the sets of the rest of the list have, are all that pass; the set of b has a where q a b
abbrev pub Joins : ℕ → (ℕ → ℕ → Bool) → (ℕ → Bool) → Set → List ℕ → Type 0
Joins n q p s rest = (a : ℕ) → a < n → (has s a || list_any (q a) rest) ≡ p a

-- nothing was joined yet of the sets of these numbers
pub joins_none : (n : ℕ) (q : ℕ → ℕ → Bool) (t : Set) (all : List ℕ) → length t ≡ n → all ≡ numbers t → Joins n q (λ a. some_below n (λ b. has t b && q a b)) (no_event n) all
joins_none n q t all room are = λ a below.
    ap (λ b. b || list_any (q a) all) (has-those n (λ _. false) a below) ∙ ap (list_any (q a)) are ∙ any-numbers t (q a) ∙ ap (λ m. some_below m (λ b. has t b && q a b)) room

-- the set of the next number is joined
pub joins_more : (n : ℕ) (q : ℕ → ℕ → Bool) (p : ℕ → Bool) (s t : Set) (e : ℕ) (rest list : List ℕ) → length s ≡ n → t ≡ those n (λ a. q a e) → list ≡ e ∷ rest
    → Joins n q p s list → Joins n q p (union s t) rest
joins_more n q p s t e rest list room told is before = λ a below.
    ap (λ b. b || list_any (q a) rest)
    (has-those (length s) (λ k. has s k || has t k) a (omega arith) ∙ ap (λ b. has s a || b) (ap (λ u. has u a) told ∙ has-those n (λ k. q k e) a below))
    ∙ or_assoc (has s a) (q a e) (list_any (q a) rest) ∙ ap (λ l. has s a || list_any (q a) l) (sym is) ∙ before a below

-- the list is at its end
pub joins_all : (n : ℕ) (q : ℕ → ℕ → Bool) (p : ℕ → Bool) (s : Set) (list : List ℕ) → length s ≡ n → list ≡ [] → Joins n q p s list → s ≡ those n p
joins_all n q p s list room is before =
    sym (those-has s) ∙ ap (λ m. those m (has s)) room
    ∙ those-ext n _ _ (λ a below. sym (or_false (has s a)) ∙ ap (λ l. has s a || list_any (q a) l) (sym is) ∙ before a below)
