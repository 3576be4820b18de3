-- What stands at a place of a list in which one place was written, or which grew by one.
use Rattle.std.proofs.Common.{◌≡◌, ◌≢◌, ◌⊎◌, ℕ, ◌<◌, List, [], ◌∷◌, ◌++◌, length, get_or, set, Some, inl, inr, sym, ap, ◌∙◌, arith, length-set, get_or-set_same, get_or-set_other}
use Rattle.std.specs.Prelude.{slice_get}
use Rattle.std.proofs.Math.Seq.{get_or-append_seam}
use Rattle.std.proofs.lemmas.Bool.{cases_lt, cases_eq}
use Rattle.std.proofs.lemmas.List.{get_or_append_left, length-append}
use Rattle.std.proofs.lemmas.Option.{slice_get_within, get_or_from_slice_get, slice_get-get_or}

pub set_cases : {X : Type 0} (xs : List X) (i : ℕ) (y : X) (j : ℕ) (x : X) → i < length xs → slice_get (set xs i y) j ≡ Some x
    → ((j ≡ i) × (x ≡ y)) ⊎ ((j ≢ i) × (slice_get xs j ≡ Some x))
set_cases xs i y j x within is =
    let room = length-set xs i y in let below = slice_get_within (set xs i y) j x is in
    let value : get_or (set xs i y) j x ≡ x = get_or_from_slice_get (set xs i y) j x x is in
    elim (cases_eq j i) [
      | inl same ↦ inl (same, sym value ∙ ap (λ k. get_or (set xs i y) k x) same ∙ get_or-set_same xs i y x within)
      | inr other ↦ inr (other, slice_get-get_or xs j x (omega arith) ∙ ap Some (sym (get_or-set_other xs i j y x other) ∙ value))
    ]

pub push_cases : {X : Type 0} (xs : List X) (y : X) (j : ℕ) (x : X) → slice_get (xs ++ y ∷ []) j ≡ Some x → ((j ≡ length xs) × (x ≡ y)) ⊎ (slice_get xs j ≡ Some x)
push_cases xs y j x is =
    let room = length-append xs (y ∷ []) in let below = slice_get_within (xs ++ y ∷ []) j x is in
    let value : get_or (xs ++ y ∷ []) j x ≡ x = get_or_from_slice_get (xs ++ y ∷ []) j x x is in
    elim (cases_lt j (length xs)) [
      | inl before ↦ inr (slice_get-get_or xs j x before ∙ ap Some (sym (get_or_append_left xs (y ∷ []) x j before) ∙ value))
      | inr past ↦ let same : j ≡ length xs = omega arith in inl (same, sym value ∙ ap (λ k. get_or (xs ++ y ∷ []) k x) same ∙ get_or-append_seam xs y [] x)
    ]
