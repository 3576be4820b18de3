-- Sets that are told by tests: joined, cut, and filled one number after another.
use Rattle.std.proofs.Common.{◌≡◌, refl, ℕ, ◌+◌, ◌<◌, ◌≤◌, Bool, true, false, not, ◌&&◌, ◌||◌, eqb, ltb, length, is_some, inl, inr, sym, ap, ◌∙◌, arith}
use Rattle.std.proofs.Math.Bool.{and-true, and-false}
use Rattle.std.proofs.lemmas.Bool.{cases_order, eq-eqb, eqb-true, ne_eqb, lt-ltb, le-ltb}
use Rattle.dcr_set.specs.Least.{least, some_below}
use Rattle.dcr_set.specs.EventSet.{Set, has, those, no_event, with_event, union, difference, intersection, share}
use Rattle.dcr_set.proofs.LeastLemmas.{least-ext}
use Rattle.dcr_set.proofs.SetLemmas.{has-those, length-those, those-ext, those-has}

module _ (n : ℕ) (s : Set) (p : ℕ → Bool) (told : s ≡ those n p) where
  room_told : length s ≡ n
  room_told = ap (λ t. length t) told ∙ length-those n p

  has_told : (k : ℕ) → k < n → has s k ≡ p k
  has_told k below = ap (λ t. has t k) told ∙ has-those n p k below

  -- the least number that is told and passes another test
  pub least_told : (q : ℕ → Bool) → least (length s) (λ k. has s k && q k) ≡ least n (λ k. p k && q k)
  least_told q = ap (λ m. least m (λ k. has s k && q k)) room_told ∙ least-ext n _ _ (λ k below. ap (λ b. b && q k) (has_told k below))

  -- a word on two sets that are told
  pub joined_told : (t : Set) (q : ℕ → Bool) → t ≡ those n q → (f : Bool → Bool → Bool) → those (length s) (λ k. f (has s k) (has t k)) ≡ those n (λ k. f (p k) (q k))
  joined_told t q also f =
      ap (λ m. those m (λ k. f (has s k) (has t k))) room_told
      ∙ those-ext n _ _ (λ k below. ap (λ b. f b (has t k)) (has_told k below) ∙ ap (f (p k)) (ap (λ u. has u k) also ∙ has-those n q k below))

-- a set over n atoms is told by its members
pub told_by_members : (n : ℕ) (s : Set) → length s ≡ n → s ≡ those n (has s)
told_by_members n s room = sym (those-has s) ∙ ap (λ m. those m (has s)) room

-- ---- two sets joined

pub union-those : (n : ℕ) (p q : ℕ → Bool) → union (those n p) (those n q) ≡ those n (λ k. p k || q k)
union-those n p q = joined_told n (those n p) p refl (those n q) q refl (λ a b. a || b)

pub difference-those : (n : ℕ) (p q : ℕ → Bool) → difference (those n p) (those n q) ≡ those n (λ k. p k && not (q k))
difference-those n p q = joined_told n (those n p) p refl (those n q) q refl (λ a b. a && not b)

-- a set with that room, and one that is told
pub union_set-those : (s : Set) (n : ℕ) (q : ℕ → Bool) → length s ≡ n → union s (those n q) ≡ those n (λ k. has s k || q k)
union_set-those s n q room = joined_told n s (has s) (told_by_members n s room) (those n q) q refl (λ a b. a || b)

pub intersection_set-those : (s : Set) (n : ℕ) (q : ℕ → Bool) → length s ≡ n → intersection s (those n q) ≡ those n (λ k. has s k && q k)
intersection_set-those s n q room = joined_told n s (has s) (told_by_members n s room) (those n q) q refl (λ a b. a && b)

pub intersection-those : (n : ℕ) (p : ℕ → Bool) (t : Set) → intersection (those n p) t ≡ those n (λ k. p k && has t k)
intersection-those n p t =
    ap (λ m. those m (λ k. has (those n p) k && has t k)) (length-those n p) ∙ those-ext n _ _ (λ k below. ap (λ b. b && has t k) (has-those n p k below))

-- a set with that room shares a number with what passes
pub share-those : (s : Set) (n : ℕ) (p : ℕ → Bool) → length s ≡ n → share s (those n p) ≡ some_below n (λ k. has s k && p k)
share-those s n p room =
    ap (λ m. some_below m (λ k. has s k && has (those n p) k)) room
    ∙ ap is_some (least-ext n _ _ (λ k below. ap (λ b. has s k && b) (has-those n p k below)))

-- ---- a set that is filled one number after another

-- what passes, of the numbers below i
abbrev pub filled : ℕ → (ℕ → Bool) → ℕ → Set
filled n p i = those n (λ k. p k && ltb k i)

pub filled_none : (n : ℕ) (p : ℕ → Bool) → no_event n ≡ filled n p 0
filled_none n p = those-ext n _ _ (λ k below. sym (ap (λ b. p k && b) (le-ltb k 0 (omega arith)) ∙ and-false (p k)))

pub filled_all : (n i : ℕ) (p : ℕ → Bool) → n ≤ i → filled n p i ≡ those n p
filled_all n i p all = those-ext n _ _ (λ k below. ap (λ b. p k && b) (lt-ltb k i (omega arith)) ∙ and-true (p k))

-- below the next number is that number or one before it
next_below : (k i : ℕ) → ltb k (i + 1) ≡ (eqb k i || ltb k i)
next_below k i = elim (cases_order k i) [
  | inl same ↦ lt-ltb k (i + 1) (omega arith) ∙ sym (ap (λ b. b || ltb k i) (eq-eqb k i same))
  | inr (inl before) ↦ lt-ltb k (i + 1) (omega arith) ∙ sym (ap (λ b. b || ltb k i) (ne_eqb k i (λ same. absurd (omega arith))) ∙ lt-ltb k i before)
  | inr (inr past) ↦ le-ltb k (i + 1) (omega arith) ∙ sym (ap (λ b. b || ltb k i) (ne_eqb k i (λ same. absurd (omega arith))) ∙ le-ltb k i (omega arith))
]

-- the number at i passes, and is added
pub filled_more : (n i : ℕ) (p : ℕ → Bool) → p i ≡ true → with_event (filled n p i) i ≡ filled n p (i + 1)
filled_more n i p passes =
    ap (λ m. those m (λ k. eqb k i || has (filled n p i) k)) (length-those n (λ k. p k && ltb k i))
    ∙ those-ext n _ _ (λ k below. ap (λ b. eqb k i || b) (has-those n (λ j. p j && ltb j i) k below) ∙ here k (eqb k i) refl ∙ ap (λ b. p k && b) (sym (next_below k i)))
  where
    here : (k : ℕ) (same : Bool) → eqb k i ≡ same → (same || (p k && ltb k i)) ≡ (p k && (same || ltb k i))
    here k true e = sym (ap (λ b. b && true) (ap p (eqb-true k i e) ∙ passes))
    here k false e = refl

-- the number at i doesn't pass
pub filled_same : (n i : ℕ) (p : ℕ → Bool) → p i ≡ false → filled n p i ≡ filled n p (i + 1)
filled_same n i p fails = those-ext n _ _ (λ k below. here k (eqb k i) refl ∙ ap (λ b. p k && b) (sym (next_below k i)))
  where
    here : (k : ℕ) (same : Bool) → eqb k i ≡ same → (p k && ltb k i) ≡ (p k && (same || ltb k i))
    here k true e = let out : p k ≡ false = ap p (eqb-true k i e) ∙ fails in ap (λ b. b && ltb k i) out ∙ sym (ap (λ b. b && true) out)
    here k false e = refl
