-- How many links the porter has brought.
use Rattle.std.specs.Prelude.{◌≡◌, ℕ, ◌≤◌, List, drop, length, Option, Some}

-- So many of the links that it had have been brought, and the others are left.
abbrev pub HasGiven : {L : Type 0} → Option (List L) → ℕ → Option (List L) → Type 0
HasGiven links given left = (all : List _) → links ≡ Some all → (given ≤ length all) × (left ≡ Some (drop given all))
