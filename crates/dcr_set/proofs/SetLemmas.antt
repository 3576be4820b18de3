-- What the words on sets compute: the law of each on membership and room.
use Rattle.std.proofs.Common.{◌≡◌, ℕ, ◌<◌, ◌≤◌, inl, inr, Bool, false, ◌&&◌, ltb, List, length, sym, ap, ◌∙◌, arith}
use Rattle.std.proofs.lemmas.Bool.{cases_lt, lt-ltb, le-ltb}
use Rattle.std.proofs.lemmas.List.{get_or_past, ext_get_or}
use Rattle.std.proofs.lemmas.List.FromFn.{length-map-range_with_len, get_or-map-range_with_len}
use Rattle.dcr_set.specs.EventSet.{has, those}

-- the room is as asked
pub length-those : (n : ℕ) (p : ℕ → Bool) → length (those n p) ≡ n
unfolding those
length-those n p = length-map-range_with_len p 0 n

-- a number below the room is in the set where it passes
pub has-those : (n : ℕ) (p : ℕ → Bool) (k : ℕ) → k < n → has (those n p) k ≡ p k
unfolding those
has-those n p k h = get_or-map-range_with_len p 0 n k k false h (omega arith)

-- no number from the room on is in a set
pub has_past : (s : List Bool) (k : ℕ) → length s ≤ k → has s k ≡ false
has_past s k h = get_or_past s k false h

-- and so of the set of those that pass
pub has_past-those : (n : ℕ) (p : ℕ → Bool) (k : ℕ) → n ≤ k → has (those n p) k ≡ false
has_past-those n p k h = has_past (those n p) k (let e = length-those n p in omega arith)

-- a number is in the set where it is below the room and passes
pub has_those_both : (n : ℕ) (p : ℕ → Bool) (k : ℕ) → has (those n p) k ≡ (ltb k n && p k)
has_those_both n p k = elim (cases_lt k n) [
  | inl below ↦ has-those n p k below ∙ sym (ap (λ b. b && p k) (lt-ltb k n below))
  | inr past ↦ has_past-those n p k past ∙ sym (ap (λ b. b && p k) (le-ltb k n past))
]

-- two sets with one room and the same members are one
pub same_set : (s t : List Bool) → length s ≡ length t → ((k : ℕ) → k < length s → has s k ≡ has t k) → s ≡ t
same_set s t rooms members = ext_get_or false s t rooms members

-- tests that agree below the room make one set
pub those-ext : (n : ℕ) (p q : ℕ → Bool) → ((k : ℕ) → k < n → p k ≡ q k) → those n p ≡ those n q
those-ext n p q h = same_set (those n p) (those n q) (length-those n p ∙ sym (length-those n q)) (λ k l.
    let below : k < n = (let e = length-those n p in omega arith) in has-those n p k below ∙ h k below ∙ sym (has-those n q k below))

-- a set is the set of its members
pub those-has : (s : List Bool) → those (length s) (has s) ≡ s
those-has s = same_set (those (length s) (has s)) s (length-those (length s) (has s)) (λ k l. has-those (length s) (has s) k (let e = length-those (length s) (has s) in omega arith))

-- the laws for `search` and `grind`
pub ruleset sets = (length-those, has-those, has_past-those, those-ext, those-has)
