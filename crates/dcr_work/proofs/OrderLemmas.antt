-- The order of the workers in the history, from what their passes have seen.
use Rattle.std.proofs.Common.{inl, inr, ◌≡◌, ℕ, ◌+◌, ◌-◌, ◌%◌, ◌<◌, ◌≤◌, Bool, true, false, List, [], ◌++◌, length, get_or, map, Some, refl, sym, ap, subst, ◌∙◌, arith}
use Rattle.std.specs.Prelude.{◌⊎◌, slice_get}
use Rattle.std.specs.List.{All, Contains, range_with_len}
use Rattle.std.proofs.lemmas.Bool.{cases_lt, false≢true}
use Rattle.std.proofs.lemmas.Option.{slice_get_within, get_or_from_slice_get}
use Rattle.std.proofs.lemmas.List.{get_or-append_right, get_or_append_left, get_or-map, length-append, length-map}
use Rattle.std.proofs.lemmas.List.Elements.{All-get_or}
use Rattle.std.proofs.lemmas.List.FromFn.{length-range_with_len, get_or-range_with_len}
use Rattle.dcr_journal.specs.declared.call.Entry.{Entry}
use Rattle.dcr_turn.specs.Covers.{is_by}
use Rattle.dcr_turn.specs.PassValue.{PassValue, HasMadeAll}
use Rattle.dcr_work.specs.Dealing.{session_of}
use Rattle.dcr_work.specs.Order.{IsInWorkerOrder}
use Rattle.dcr_work.specs.Working.{AreInTurn, BeganWith}
use Rattle.dcr_work.proofs.DealingLemmas.{any_default}

by_itself : (s : ℕ) (x : Entry) → x.session ≡ s → is_by s x ≡ false → ⊥
by_itself s x same other = let own : is_by s x ≡ true = grind (arith, same) in false≢true (sym other ∙ own)

-- an entry that isn't one of the rest stands in the front
in_front : (P : Entry → Type 0) (front rest J : List Entry) (a : ℕ) (x : Entry) → front ++ rest ≡ J → All P rest → slice_get J a ≡ Some x → (P x → ⊥) → a < length front
in_front P front rest J a x whole all here not =
    elim (cases_lt a (length front)) [
      | inl below ↦ below
      | inr far ↦
          (let value : get_or rest (a - length front) x ≡ x =
          sym (get_or-append_right front rest (length front) a x refl far) ∙ ap (λ (l : List Entry). get_or l a x) whole ∙ get_or_from_slice_get J a x x here in
          let long : length J ≡ length front + length rest = ap (λ (l : List Entry). length l) (sym whole) ∙ length-append front rest in
          let within : a < length J = slice_get_within J a x here in absurd (not (subst P value (all (a - length front) x (omega arith)))))
    ]

-- an entry that isn't one of the front stands behind it
behind_front : (P : Entry → Type 0) (front rest J : List Entry) (b : ℕ) (y : Entry) → front ++ rest ≡ J → All P front → slice_get J b ≡ Some y → (P y → ⊥) → length front ≤ b
behind_front P front rest J b y whole all here not =
    elim (cases_lt b (length front)) [
      | inl below ↦
          (let value : get_or front b y ≡ y =
          sym (get_or_append_left front rest y b below) ∙ ap (λ (l : List Entry). get_or l b y) whole ∙ get_or_from_slice_get J b y y here in
          absurd (not (subst P value (all b y below))))
      | inr far ↦ far
    ]

module _ (workers sessions : ℕ) (passes : List PassValue) (J : List Entry) (are : map session_of passes ≡ range_with_len 0 sessions) (turn : AreInTurn workers passes)
    (made : All (λ pass. HasMadeAll pass J) passes) (below : All (λ (entry : Entry). entry.session < sessions) J) where
  many : length passes ≡ sessions
  many = sym (length-map passes session_of) ∙ ap (λ (l : List ℕ). length l) are ∙ length-range_with_len 0 sessions

  pass_of : (s : ℕ) → s < sessions → PassValue → (pass : PassValue) × (pass.session ≡ s) × Contains passes pass × HasMadeAll pass J
  pass_of s within d =
      let place : s < length passes = (let all = many in omega arith) in
      let session : session_of (get_or passes s d) ≡ s =
      sym (get_or-map session_of passes s d 0 place) ∙ ap (λ (l : List ℕ). get_or l s 0) are ∙ get_or-range_with_len 0 sessions s 0 within ∙ (let none : 0 + s ≡ s = omega arith in none) in
      (get_or passes s d, session, (s, place, any_default passes s (get_or passes s d) d place), made s d place)

  session_below : (a : ℕ) (x : Entry) → slice_get J a ≡ Some x → x.session < sessions
  session_below a x here = subst (λ (e : Entry). e.session < sessions) (get_or_from_slice_get J a x x here) (below a x (slice_get_within J a x here))

  pub history_in_order : IsInWorkerOrder workers J
  history_in_order a b x y x_at y_at less same =
      let d : PassValue = record { session = 0; front = []; made = 0 } in
      let earlier = pass_of x.session (session_below a x x_at) d in
      let later = pass_of y.session (session_below b y y_at) d in
      let first : earlier.0.session ≡ x.session = earlier.1 in
      let second : later.0.session ≡ y.session = later.1 in
      let began : BeganWith earlier.0.front later.0 =
      turn earlier.0 later.0 earlier.2 later.2 (omega arith) (ap (λ (s : ℕ). s % workers) first ∙ same ∙ ap (λ (s : ℕ). s % workers) (sym second)) in
      let front : List Entry = earlier.0.front in
      let before : a < length front =
      in_front (λ entry. is_by earlier.0.session entry ≡ false) front earlier.3.seen.rest J a x earlier.3.seen.whole earlier.3.seen.spared x_at (by_itself earlier.0.session x (sym first)) in
      let behind : length front ≤ b =
      behind_front (λ entry. is_by later.0.session entry ≡ false) front earlier.3.seen.rest J b y earlier.3.seen.whole began.none_before y_at (by_itself later.0.session y (sym second)) in
      omega arith
