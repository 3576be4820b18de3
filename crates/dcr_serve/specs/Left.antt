-- What is left of items and links that are given away from the first one on.
use Rattle.std.specs.Prelude.{◌≡◌, ℕ, ◌-◌, ◌≤◌, List, length, drop, Option, Some, None, slice_get, ⊤}
use Rattle.std.specs.List.{range_with_len}

-- the numbers from `first` on that are below `end`, in order
abbrev pub numbers_from : ℕ → ℕ → List ℕ
numbers_from first end = range_with_len first (end - first)

-- all links that there were are left but the first n, where they are told
abbrev pub AreAllButFirst : {L : Type 0} → Option (List L) → ℕ → Option (List L) → Type 0
AreAllButFirst None n left = left ≡ None
AreAllButFirst (Some all) n left = (n ≤ length all) × (left ≡ Some (drop n all))

-- the link has this number among those that there were, counted from 0, where they are told
abbrev pub HasNumber : {L : Type 0} → Option (List L) → ℕ → L → Type 0
HasNumber None n link = ⊤
HasNumber (Some all) n link = slice_get all n ≡ Some link
