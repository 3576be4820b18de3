-- What is left when the first item and the first link are given.
use Rattle.std.proofs.Common.{◌≡◌, ℕ, zero, suc, ◌+◌, ◌-◌, ◌<◌, ◌≤◌, List, [], ◌∷◌, Option, Some, None, Ok, length, drop, sym, ◌∙◌, ap, arith}
use Rattle.std.specs.Prelude.{map, slice_get}
use Rattle.std.specs.List.{range_with_len}
use Rattle.dcr_base.specs.Door.{GivesNext}
use Rattle.dcr_serve.specs.Left.{numbers_from, AreAllButFirst, HasNumber}

-- the first of so many numbers in a row, and the rest
first_of_range : (x : ℕ) (rest : List ℕ) (first n : ℕ) → x ∷ rest ≡ range_with_len first n
    → (x ≡ first) × (0 < n) × (rest ≡ range_with_len (first + 1) (n - 1))
first_of_range x rest first zero is = absurd (cc)
first_of_range x rest first (suc n) is =
    let less : suc n - 1 ≡ n = omega arith in
    let same : rest ≡ range_with_len (first + 1) n = cc in (cc, omega arith, rw less same)

-- the first item that is left has the number of those taken, and the rest have the numbers from the next one on
pub first_is_next : {P : Type 0} (number : P → ℕ) (before after : List P) (item : P) (taken count : ℕ)
    → map number before ≡ numbers_from taken count → before ≡ item ∷ after
    → (number item ≡ taken) × (taken < count) × (map number after ≡ numbers_from (taken + 1) count)
first_is_next number before after item taken count are is =
    let first = first_of_range (number item) (map number after) taken (count - taken) (sym (ap (map number) is) ∙ are) in
    let less : count - taken - 1 ≡ count - (taken + 1) = omega arith in (
      first.0,
      (let some = first.1 in omega arith),
      rw less at first.2,
    )

-- a list without its first ones begins with the one of their number
begins : {L : Type 0} (all rest : List L) (link : L) (taken : ℕ) → drop taken all ≡ link ∷ rest
    → (suc taken ≤ length all) × (drop (suc taken) all ≡ rest) × (slice_get all taken ≡ Some link)
begins [] rest link zero is = absurd (cc)
begins [] rest link (suc n) is = absurd (cc)
begins (x ∷ all) rest link zero is = (omega arith, cc, cc)
begins (x ∷ all) rest link (suc n) is =
    let more = begins all rest link n is in ((let fits = more.0 in omega arith), more.1, more.2)

-- the link that was given has the number of those taken, and the others are left
pub gives_its_number : {L : Type 0} (all before after : Option (List L)) (link : L) (taken : ℕ) → AreAllButFirst all taken before
    → GivesNext before after (Ok (Some link)) → AreAllButFirst all (taken + 1) after × HasNumber all taken link
gives_its_number None None after link taken was gives = (gives, tt)
gives_its_number None (Some before) after link taken was gives = absurd (cc)
gives_its_number (Some all) None after link taken was gives = absurd (let lost = was.1 in cc)
gives_its_number (Some all) (Some before) after link taken was gives =
    let rest = gives.0 in
    let same : before ≡ drop taken all = (let told = was.1 in cc) in
    let first = begins all rest link taken (sym same ∙ gives.1) in
    let next : suc taken ≡ taken + 1 = omega arith in (
      ((let fits = first.0 in omega arith), gives.2 ∙ ap Some (sym (rw next at first.1))),
      first.2,
    )
