-- A set of numbers below its room, as a truth value for each of them. It is read by these words alone.
use Rattle.std.specs.Prelude.{ℕ, ◌-◌, Bool, false, not, ◌&&◌, ◌||◌, ◌==◌, List, nat_le, length, map, filter, Option, slice_index_or}
use Rattle.std.specs.List.{range_with_len}
use Rattle.dcr_set.specs.Least.{least, some_below}

-- a set with its room, which is its length
abbrev pub Set : Type 0
Set = List Bool

-- whether a number is in the set; none is from the room on
abbrev pub has : Set → ℕ → Bool
has s k = slice_index_or s k false

-- the set with room n of those numbers that pass
unfoldable pub those : ℕ → (ℕ → Bool) → Set
those n p = map p (range_with_len 0 n)

-- the numbers in the set, ascending
unfoldable pub numbers : Set → List ℕ
numbers s = filter (has s) (range_with_len 0 (length s))

-- those from this one on
abbrev pub numbers_from : Set → ℕ → List ℕ
numbers_from s from = filter (has s) (range_with_len from (length s - from))

-- the empty set with room n
abbrev pub no_event : ℕ → Set
no_event n = those n (λ _. false)

-- the set with e
abbrev pub with_event : Set → ℕ → Set
with_event s e = those (length s) (λ k. (k == e) || has s k)

-- the set without e
abbrev pub without_event : Set → ℕ → Set
without_event s e = those (length s) (λ k. has s k && not (k == e))

abbrev pub union : Set → Set → Set
union s t = those (length s) (λ k. has s k || has t k)

abbrev pub difference : Set → Set → Set
difference s t = those (length s) (λ k. has s k && not (has t k))

abbrev pub intersection : Set → Set → Set
intersection s t = those (length s) (λ k. has s k && has t k)

-- whether a number is in both
abbrev pub share : Set → Set → Bool
share s t = some_below (length s) (λ k. has s k && has t k)

-- the least number in the set
abbrev pub first_of : Set → Option ℕ
first_of s = least (length s) (has s)

-- the least number in the set from this one on
abbrev pub first_at_least : Set → ℕ → Option ℕ
first_at_least s from = least (length s) (λ k. has s k && nat_le from k)

-- the least number in both
abbrev pub first_in_both : Set → Set → Option ℕ
first_in_both s t = least (length s) (λ k. has s k && has t k)

-- the least number in s and inside, and not in outside
abbrev pub first_in_both_without : Set → Set → Set → Option ℕ
first_in_both_without s inside outside = least (length s) (λ k. has s k && (has inside k && not (has outside k)))

-- the least number in all three
abbrev pub first_in_three : Set → Set → Set → Option ℕ
first_in_three s t u = least (length s) (λ k. has s k && (has t k && has u k))
