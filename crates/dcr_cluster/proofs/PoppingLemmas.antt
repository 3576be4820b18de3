-- A list that was turned round, and from whose end one is taken after the other; and the fronts of a turn that begins.
use Rattle.std.proofs.Common.{◌≡◌, ℕ, ◌+◌, ◌-◌, ◌<◌, ◌≤◌, List, [], length, get_or, reverse, take, sym, ap, ◌∙◌, arith}
use Rattle.std.specs.List.{range_with_len}
use Rattle.std.proofs.lemmas.List.FromFn.{length-range_with_len, get_or-range_with_len}
use Rattle.dcr_turn.specs.FrontValue.{FrontValue, new_fronts}
use Rattle.std.proofs.lemmas.List.{get_or-map, get_or-reverse, get_or-take, length-map, length-reverse, length-take-le, take-take, take_all}

pub turned : {X : Type 0} (xs now : List X) (n : ℕ) → length xs ≡ n → now ≡ reverse xs → now ≡ take (n - 0) (reverse xs)
turned xs now n long is =
    let all : length (reverse xs) ≤ n - 0 = omega (arith, length-reverse xs) in
    is ∙ sym (take_all (n - 0) (reverse xs) all)

module _ {X : Type 0} (xs left : List X) (n k : ℕ) (long : length xs ≡ n) (more : k < n) (is : left ≡ take (n - k) (reverse xs)) where
  turned_long : length (reverse xs) ≡ n
  turned_long = omega (arith, length-reverse xs, long)

  -- so many are left
  pub left_long : length left ≡ n - k
  left_long = ap length is ∙ length-take-le (n - k) (reverse xs) (omega (arith, turned_long))

  -- the last one is the next of the list
  pub next_is : (d : X) → get_or left (length left - 1) d ≡ get_or xs k d
  next_is d =
      ap (λ m. get_or left (m - 1) d) left_long
      ∙ ap (λ (l : List X). get_or l (n - k - 1) d) is
      ∙ get_or-take (n - k) (reverse xs) (n - k - 1) d (omega (arith, more))
      ∙ get_or-reverse xs (n - k - 1) d (omega (arith, long, more))
      ∙ ap (λ m. get_or xs m d) (omega (arith, long, more))

  pub rest_is : (rest : List X) → rest ≡ take (length left - 1) left → rest ≡ take (n - (k + 1)) (reverse xs)
  rest_is rest taken =
      taken ∙ ap (λ m. take (m - 1) left) left_long ∙ ap (take (n - k - 1)) is ∙ take-take (n - k - 1) (n - k) (reverse xs) (omega arith)
      ∙ ap (λ m. take m (reverse xs)) (omega arith)

-- ---- the fronts of a turn that begins

abbrev new_front : ℕ → FrontValue
new_front i = record { site = i; front = [] }

pub many_new : (n : ℕ) → length (new_fronts n) ≡ n
many_new n = length-map (range_with_len 0 n) new_front ∙ length-range_with_len 0 n

pub new_at : (n k : ℕ) (d : FrontValue) → k < n → get_or (new_fronts n) k d ≡ record { site = k; front = [] }
new_at n k d below =
    let in_range : k < length (range_with_len 0 n) = omega (arith, length-range_with_len 0 n) in
    let none : 0 + k ≡ k = omega arith in
    get_or-map new_front (range_with_len 0 n) k 0 d in_range ∙ ap new_front (get_or-range_with_len 0 n k 0 below ∙ none)
