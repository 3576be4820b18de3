-- What one read does to the bytes left.
use Rattle.std.proofs.Common.{◌≡◌, ℕ, ◌-◌, ◌<◌, ◌≤◌, min, List, [], ◌++◌, length, take, drop, ap, ◌∙◌, arith}
use Rattle.std.proofs.lemmas.Grind.{common_steps}
use Rattle.std.proofs.lemmas.List.{length-append, length-take, length-drop, nil_from_length, take_all}

-- the n bytes that a read of at most `step` copied into the buffer are gone from the front of those left, and it copied
-- none into a buffer with room only where none was left
pub moved : (left buf copied : List ℕ) (n step : ℕ) → copied ≡ take n left
    → n ≡ min (min step (length buf)) (length left) → 1 ≤ step
    → (left ≡ take n (copied ++ drop n buf) ++ drop n left)
    × (n ≡ 0 → 0 < length (copied ++ drop n buf) → drop n left ≡ [])
moved left buf copied n step is most some = (
  grind (arith, common_steps),
  λ none room. nil_from_length (drop n left)
      (omega (arith, most, some, none, room, ap length is, length-append copied (drop n buf), length-drop n buf, length-take n left, length-drop n left)),
)

-- the end of a slice, as `&bytes[given..]` gives it
pub rest_of : (slice bytes : List ℕ) (given : ℕ) → slice ≡ bytes
    → take (length slice - given) (drop given slice) ≡ drop given bytes
rest_of slice bytes given is =
    take_all (length slice - given) (drop given slice) (omega (arith, length-drop given slice)) ∙ ap (drop given) is
