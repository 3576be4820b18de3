-- A set that is filled number by number with those that pass.
use Rattle.std.proofs.Common.{◌≡◌, ℕ, ◌+◌, ◌<◌, ◌≤◌, Bool, true, false, ◌||◌, eqb, length, inl, inr, sym, ap, subst, ◌∙◌, arith}
use Rattle.std.proofs.lemmas.Bool.{cases_lt, cases_eq, eq-eqb, ne_eqb}
use Rattle.dcr_set.specs.EventSet.{Set, has, those, no_event, with_event}
use Rattle.dcr_set.proofs.SetLemmas.{length-those, has-those, has_past-those, same_set}

-- the set has those of the numbers below i that pass
pub record IsFilled (n i : ℕ) (p : ℕ → Bool) (set : Set) : Type 0 where
  pub room : length set ≡ n
  pub members : (k : ℕ) → k < i → k < n → has set k ≡ p k
  pub rest : (k : ℕ) → i ≤ k → has set k ≡ false

pub filled_none : (n : ℕ) (p : ℕ → Bool) → IsFilled n 0 p (no_event n)
filled_none n p = record {
  room = length-those n (λ _. false);
  members = λ k below within. absurd (omega arith);
  rest = λ k from. elim (cases_lt k n) [ inl within ↦ has-those n (λ _. false) k within | inr past ↦ has_past-those n (λ _. false) k past ];
}

module _ (n i : ℕ) (p : ℕ → Bool) (set : Set) (before : IsFilled n i p set) where
  pub filled_without : p i ≡ false → IsFilled n (i + 1) p set
  filled_without fails = record {
    room = before.room;
    members = λ k below within. elim (cases_lt k i) [
      | inl lower ↦ before.members k lower within
      | inr last ↦ (let same : k ≡ i = omega arith in before.rest k last ∙ sym (ap p same ∙ fails))
    ];
    rest = λ k from. before.rest k (omega arith);
  }

  within_room : (k : ℕ) → k < n → k < length set
  within_room k within = let room = before.room in omega arith

  pub filled_with : i < n → p i ≡ true → IsFilled n (i + 1) p (with_event set i)
  filled_with inside passes = record {
    room = length-those (length set) (λ k. eqb k i || has set k) ∙ before.room;
    members = λ k below within. has-those (length set) (λ k. eqb k i || has set k) k (within_room k within) ∙ elim (cases_eq k i) [
      | inl same ↦ ap (λ b. b || has set k) (eq-eqb k i same) ∙ sym (ap p same ∙ passes)
      | inr other ↦ ap (λ b. b || has set k) (ne_eqb k i other) ∙ before.members k (omega arith) within
    ];
    rest = λ k from. elim (cases_lt k (length set)) [
      | inl within ↦ has-those (length set) (λ k. eqb k i || has set k) k within ∙ ap (λ b. b || has set k) (ne_eqb k i (λ same. absurd (omega arith))) ∙ before.rest k (omega arith)
      | inr past ↦ has_past-those (length set) (λ k. eqb k i || has set k) k past
    ];
  }

-- the set that is one of these is one
pub filled_as : (n i : ℕ) (p : ℕ → Bool) (set filled : Set) → set ≡ filled → IsFilled n i p filled → IsFilled n i p set
filled_as n i p set filled same is = subst (IsFilled n i p) (sym same) is

-- at the end it is the set of those that pass
pub filled_end : (n i : ℕ) (p : ℕ → Bool) (set : Set) → n ≤ i → IsFilled n i p set → set ≡ those n p
filled_end n i p set all filled =
    let room = filled.room in
    same_set set (those n p) (room ∙ sym (length-those n p)) (λ k within. let inside : k < n = omega arith in filled.members k (omega arith) inside ∙ sym (has-those n p k inside))
