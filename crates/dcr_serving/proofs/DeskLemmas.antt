-- The seats that are left at the desk, and the places of those that were served.
use borrow.Author.Count.{below_more}
use Rattle.std.proofs.Common.{◌≡◌, ℕ, zero, suc, ◌∷◌, ◌+◌, ◌-◌, ◌<◌, ◌≤◌, List, [], ◌++◌, length, get_or, map, take, drop, Option, None, Some, refl, sym, ap, subst, ◌∙◌, arith, inl, inr}
use Rattle.std.specs.Prelude.{IsSome, slice_get, slice_index_or}
use Rattle.std.specs.List.{All, range_with_len}
use Rattle.std.proofs.lemmas.List.{append-nil, drop_all, get_or-map, length-map, length-take-le, take_all}
use Rattle.std.proofs.lemmas.Option.{slice_get-get_or}
use Rattle.std.proofs.lemmas.List.FromFn.{get_or-range_with_len, length-range_with_len}
use Rattle.std.proofs.lemmas.List.Elements.{All-contains}
use Rattle.dcr_turn.specs.PassValue.{PassValue}
use Rattle.dcr_serve.specs.Left.{numbers_from}
use Rattle.dcr_serving.specs.Placing.{AreInPlace, MayBePlaced, filled}
use Rattle.dcr_serving.specs.Serving.{new_pass}
use Rattle.dcr_serving.specs.declared.record.Record.{Record}
use Rattle.dcr_serving.specs.declared.work.Hand.{Hand}
use Rattle.dcr_serving.proofs.GatherLemmas.{IsFrom}
use Rattle.dcr_serving.proofs.PlacingLemmas.{first_full, get_taken, numbered}

-- a list that was written as a slice
pub whole_again : {X : Type 0} (len : ℕ) (now before : List X) → len ≡ length before → length now ≡ length before → take len (now ++ drop (length now) before) ≡ now
whole_again {X = X} len now before len_is same =
    ap (λ (l : List X). take len (now ++ l)) (drop_all (length now) before (omega (arith, same)))
    ∙ ap (take len) (append-nil now) ∙ take_all len now (omega (arith, len_is, same))

session_at : (left : List PassValue) (first end k : ℕ) (d : PassValue) → map (λ (seat : PassValue). seat.session) left ≡ numbers_from first end → k < length left
    → ((get_or left k d).session ≡ first + k) × (first + k < end)
session_at left first end k d are within =
    let many : length left ≡ end - first =
    sym (length-map left (λ (seat : PassValue). seat.session)) ∙ ap (λ (l : List ℕ). length l) are ∙ length-range_with_len first (end - first) in
    let fits : k < end - first = omega (arith, many, within) in (
      sym (get_or-map (λ (seat : PassValue). seat.session) left k d d.session within) ∙ ap (λ (l : List ℕ). get_or l k d.session) are ∙ get_or-range_with_len first (end - first) k d.session fits,
      omega (arith, fits),
    )

pub below : (left : List PassValue) (first end : ℕ) → map (λ (seat : PassValue). seat.session) left ≡ numbers_from first end → All (λ (seat : PassValue). seat.session < end) left
below left first end are = λ k d within.
    let at = session_at left first end k d are within in
    let is = at.0 in let less = at.1 in omega (arith, is, less)

-- those places are full of which no seat is left
pub settled : {L N R : Type 0} (slots : List (Option (Record L N R))) (left : List PassValue) (n : ℕ) → length slots ≡ n → length (filled slots) ≤ n
    → map (λ (seat : PassValue). seat.session) left ≡ numbers_from (length (filled slots)) n → All (λ (seat : PassValue). slice_get slots seat.session ≡ Some None) left
    → All IsSome (take (length (filled slots)) slots) × (filled (take (length (filled slots)) slots) ≡ filled slots)
settled {L = L} {N = N} {R = R} slots left n places within are free =
    let t : ℕ = length (filled slots) in
    first_full slots t (omega (arith, places, within)) refl
    (λ i past inside.
    let many : length left ≡ n - t = sym (length-map left (λ (seat : PassValue). seat.session)) ∙ ap (λ (l : List ℕ). length l) are ∙ length-range_with_len t (n - t) in
    let here : i - t < length left = omega (arith, places, many, past, inside) in
    let at = session_at left t n (i - t) (new_pass 0) are here in
    let same : t + (i - t) ≡ i = omega (arith, past) in
    subst (λ (k : ℕ). slice_get slots k ≡ Some None) (at.0 ∙ same) (free (i - t) (new_pass 0) here))

-- what stands there has the first numbers
pub in_order : {L N R : Type 0} (slots : List (Option (Record L N R))) (t : ℕ) → t ≤ length slots → AreInPlace slots → All IsSome (take t slots) → filled (take t slots) ≡ filled slots
    → map (λ (one : Record L N R). one.pass.session) (filled slots) ≡ numbers_from 0 t
in_order {L = L} {N = N} {R = R} slots t within in_place full same =
    let many : length (take t slots) ≡ t - 0 = length-take-le t slots within ∙ omega arith in
    ap (map (λ (one : Record L N R). one.pass.session)) (sym same)
    ∙ numbered (λ (one : Record L N R). one.pass.session) (take t slots) 0 (λ i one there. in_place i one (get_taken t slots i (Some one) there) ∙ omega arith) full
    ∙ ap (range_with_len 0) many

-- ---- what the workers have in hand

pub session_below : {L N R : Type 0} (records : List (Record L N R)) (n m : ℕ) → n ≡ m → All (λ (one : Record L N R). one.end.session ≡ one.pass.session) records
    → All (λ (one : Record L N R). one.pass.session < n) records → All (MayBePlaced m) records
session_below records n m same sessions within = λ k d fits. record { session = sessions k d fits; within = subst (λ (i : ℕ). (slice_index_or records k d).pass.session < i) same (within k d fits) }

-- what is in its place is what some hand has served
pub from_hands : {L N M R : Type 0} (P : Record L N R → Type 0) (slots slots_after : List (Option (Record L N R))) (hands : List (Hand L N M R)) → filled slots ≡ []
    → All (IsFrom slots hands) (filled slots_after) → All (λ (hand : Hand L N M R). All P hand.records.items) hands → All P (filled slots_after)
from_hands {L = L} {N = N} {M = M} {R = R} P slots slots_after hands none from each = λ k d within.
    elim (from k d within) [
      | inl old ↦ absurd (let place = old.0 in let fits = old.1 in let many : length (filled slots) ≡ 0 = ap (λ (l : List (Record L N R)). length l) none in omega (arith, fits, many))
      | inr new ↦ All-contains P new.0.records.items (slice_index_or (filled slots_after) k d) (All-contains (λ (hand : Hand L N M R). All P hand.records.items) hands new.0 each new.1) new.2
    ]

filled_some : {X : Type 0} (slots : List (Option X)) (i : ℕ) (x : X) → slice_get slots i ≡ Some (Some x) → 0 < length (filled slots)
filled_some [] i x is = absurd (cc)
filled_some (None ∷ slots) zero x is = absurd (cc)
filled_some (Some y ∷ slots) zero x is = omega arith
filled_some (None ∷ slots) (suc i) x is = filled_some slots i x is
filled_some (Some y ∷ slots) (suc i) x is = omega arith

-- where nothing stands, all stands in its place
pub none_in_place : {L N R : Type 0} (slots : List (Option (Record L N R))) → filled slots ≡ [] → AreInPlace slots
none_in_place {L = L} {N = N} {R = R} slots none i one is =
    absurd (let some = filled_some slots i one is in let many : length (filled slots) ≡ 0 = ap (λ (l : List (Record L N R)). length l) none in omega (arith, some, many))

-- as many were taken as stand there
pub taken_are : {L N R : Type 0} (slots before after : List (Option (Record L N R))) (taken first : ℕ) → taken + length (filled before) ≡ first + length (filled slots) → filled before ≡ [] → first ≡ 0 → after ≡ slots
    → taken ≡ length (filled after)
taken_are {L = L} {N = N} {R = R} slots before after taken first count none new same =
    let empty : length (filled before) ≡ 0 = ap (λ (l : List (Record L N R)). length l) none in
    let many : taken ≡ length (filled slots) = omega (arith, count, empty, new) in
    many ∙ ap (λ (l : List (Option (Record L N R))). length (filled l)) (sym same)

-- ---- no seat is left of a session that was served

pub seat_within : (left now : List PassValue) (k places number : ℕ) (d : PassValue) → All (λ (seat : PassValue). seat.session < places) left → now ≡ left → k < length left
    → number ≡ (get_or now k d).session → (number < places) × (number ≡ (get_or left k d).session)
seat_within left now k places number d all same within is =
    let its : number ≡ (get_or left k d).session = is ∙ ap (λ (l : List PassValue). (get_or l k d).session) same in
    (subst (λ (n : ℕ). n < places) (sym its) (all k d within), its)

pub one_read : (left : List PassValue) (k : ℕ) (d e : PassValue) → k < length left → get_or left k d ≡ get_or left k e
one_read left k d e within = let first = slice_get-get_or left k d within in let second = slice_get-get_or left k e within in cc

-- one seat more
pub free_more : {X : Type 0} (left : List PassValue) (slots : List (Option X)) (i : ℕ) (d : PassValue) → i < length left
    → ((j : ℕ) (e : PassValue) → j < i → slice_get slots (slice_index_or left j e).session ≡ Some None) → slice_get slots (get_or left i d).session ≡ Some None
    → (j : ℕ) (e : PassValue) → j < i + 1 → slice_get slots (slice_index_or left j e).session ≡ Some None
free_more left slots i d within free here = λ j e behind.
    below_more (λ (k : ℕ). (p : PassValue) → slice_get slots (slice_index_or left k p).session ≡ Some None) i (λ k before p. free k p before)
    (λ p. subst (λ (seat : PassValue). slice_get slots seat.session ≡ Some None) (one_read left i d p within) here) j behind e
